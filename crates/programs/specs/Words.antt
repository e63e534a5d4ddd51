-- What the words after a program's name ask for. Assumes nothing.
--     name k           the word for a kind
--     help             the word that asks for help
--     AskedBy word r   r is what one word asks for
--     Asked words r    r is what all the words ask for, plain where there are none
use Rattle.std.specs.Prelude.{◌≡◌, ℕ, List, [], ◌∷◌, codes, ◌≢◌}
use Rattle.programs.specs.declared.request.Kind.{Kind}
use Rattle.programs.specs.declared.request.Request.{Request}

abbrev pub name : Kind → List ℕ
name Kind.Plain = codes "plain"
name Kind.Guarded = codes "guarded"

abbrev pub help : List ℕ
help = codes "--help"

abbrev pub AskedBy : List ℕ → Request → Type 0
AskedBy word (Request.Run k) = word ≡ name k
AskedBy word Request.Help = word ≡ help
AskedBy word Request.NotUnderstood = ((k : Kind) → word ≢ name k) × (word ≢ help)

abbrev pub Asked : List (List ℕ) → Request → Type 0
Asked [] r = r ≡ Request.Run Kind.Plain
Asked (word ∷ []) r = AskedBy word r
Asked (word ∷ other ∷ more) r = r ≡ Request.NotUnderstood

-- What is kept of an input whose bytes are known. Assumes nothing.
use Rattle.std.proofs.Common.{◌≡◌, ℕ, ◌+◌, List, [], ◌++◌, take, Some, None, Option, IfSome, ap, ◌∙◌, arith}
use Rattle.programs.specs.Inputs.{kept}
use Rattle.std.proofs.lemmas.List.{take-take}
use Rattle.std.specs.Option.{option_map}

-- cutting once more what was read up to the limit and one changes nothing
pub kept_first : (limit : ℕ) (known : Option (List ℕ)) (text : List ℕ) → IfSome (option_map (take (limit + 1)) known) (λ xs. text ≡ [] ++ xs) → IfSome known (λ bytes. take (limit + 1) text ≡ kept limit bytes)
kept_first limit None text read = tt
kept_first limit (Some bytes) text read = ap (take (limit + 1)) read ∙ take-take (limit + 1) (limit + 1) bytes (omega arith)

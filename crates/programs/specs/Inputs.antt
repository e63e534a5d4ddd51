-- How much of an input is kept. Assumes nothing.
--     kept limit bytes              one byte more than the limit at most, so that what is above it stays above it
--     Bounded limit text            the text is no longer than what is kept
--     kept_for request limit bytes  what is kept for a request: nothing where nothing is run
--     ReadFor request limit text    the text is no longer than what is kept for a request
--     Left request old new          a source of bytes `old` has `new` left after a request, where they are known: all of them where nothing is run
use Rattle.std.specs.Prelude.{◌≡◌, ℕ, ◌+◌, ◌≤◌, List, [], length, take, Option}
use Rattle.std.specs.Io.KnownBytes.{IsAtEnd, Keeps}
use Rattle.programs.specs.declared.request.Request.{Request}

abbrev pub kept : ℕ → List ℕ → List ℕ
kept limit bytes = take (limit + 1) bytes

abbrev pub Bounded : ℕ → List ℕ → Type 0
Bounded limit text = length text ≤ limit + 1

abbrev pub kept_for : Request → ℕ → List ℕ → List ℕ
kept_for (Request.Run k) limit bytes = kept limit bytes
kept_for Request.Help limit bytes = []
kept_for Request.NotUnderstood limit bytes = []

abbrev pub ReadFor : Request → ℕ → List ℕ → Type 0
ReadFor (Request.Run k) limit text = Bounded limit text
ReadFor Request.Help limit text = text ≡ []
ReadFor Request.NotUnderstood limit text = text ≡ []

abbrev pub Left : Request → Option (List ℕ) → Option (List ℕ) → Type 0
Left (Request.Run k) old new = IsAtEnd new
Left Request.Help old new = Keeps old new
Left Request.NotUnderstood old new = Keeps old new

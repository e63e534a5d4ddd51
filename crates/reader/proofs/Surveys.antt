-- Why a survey counts the lines of the sheet. Assumes nothing.
use Rattle.std.proofs.Common.{◌≡◌, ℕ, ◌+◌, ◌<◌, ◌≤◌, cond, List, [], ◌∷◌, ◌++◌, length, ℤ, pos, Some, None, Ok, Err, Option, sym, refl, ap, ◌∙◌, subst, append_assoc, append-nil, arith, length-append, Bor}
use Rattle.lines.specs.Fields.{ShowsPin}
use Rattle.lines.specs.Lines.{InTurn}
use Rattle.reader.specs.Readings.{Begun, HandsOut, Next, Reading, comes_to_end, meets_fault, hands_out, TellsTheSheet}
use Rattle.lines.specs.Checks.{Good}
use Rattle.reader.specs.Sheets.{Told}
use Rattle.reader.specs.Summaries.{has, many, ShowsPins, Counted, Few, NotedPins, Noted, Surveyed}
use Rattle.reader.specs.Texts.{limit}
use Rattle.reader.specs.declared.fault.Fault.{Fault}
use Rattle.lines.specs.declared.line.Letter.{Letter}
use Rattle.lines.specs.declared.line.Letter.TheVariants.{N, P, R, C}
use Rattle.lines.specs.declared.line.Line.{Line}
use Rattle.lines.specs.declared.line.Line.TheVariants.{Pins, Name, Constraint, Commit}
use Rattle.reader.specs.declared.reader.Reader.{Reader}
use Rattle.reader.specs.declared.summary.Summary.{Summary}
use Rattle.std.proofs.ByRecursion.{All-push}
use Rattle.std.proofs.lemmas.List.Sums.{sum_by_push, count_by-le-length}
use Rattle.std.specs.List.{AllByRecursion}

-- the loop's invariant: the reader `start` has handed out ls and is now s, and the summary counts ls
pub record Sofar {V : Type 0} (k : ℕ) (start s : Reader V) (sum : Summary) : Type 0 where
  pub ls : List Line
  pub reading : (ms : List Line) (f : Option Fault) → Reading k s ms f → Reading k start (ls ++ ms) f
  pub numbered : s.line ≡ length ls + 1
  pub first : s.last ≡ None → ls ≡ []
  pub counted : Counted ls sum

-- before the first line
pub sofar_none : {V : Type 0} (k : ℕ) (text : List ℕ) (s : Reader V) (sum : Summary) → Begun text s → (sum.pins ≡ pos 0) × ((sum.names ≡ 0) × ((sum.constraints ≡ 0) × (sum.commits ≡ 0))) → Sofar k s s sum
sofar_none k text s sum begun zeros = record {
  ls = [];
  reading = λ ms f r. r;
  numbered = begun.number;
  first = λ _. refl;
  counted = record { pins = tt; names = zeros.1.0; constraints = zeros.1.1.0; commits = zeros.1.1.1 };
}

-- an N line comes before any other
none_before : (last : Option Letter) → InTurn last N → last ≡ None
none_before None turn = refl
none_before (Some l) turn = absurd (omega (arith, turn.0))

-- an N line is the first, and shows the number taken over; after it that number stays
pins_more : (k : ℕ) (last : Option Letter) (n : ℕ) (bytes : List ℕ) (line : Line) (ls : List Line) (before after : ℤ) → Good k last n bytes line → (last ≡ None → ls ≡ []) → NotedPins line before after → AllByRecursion (ShowsPins before) ls → AllByRecursion (ShowsPins after) (ls ++ (line ∷ []))
pins_more k last n bytes (Pins m pins count) ls before after good first noted all =
    let (z, shows) = good.numbers.0 in
    subst (λ l. AllByRecursion (ShowsPins after) (l ++ (Pins m pins count ∷ []))) (sym (first (none_before last good.turn)))
    (subst (ShowsPin pins.now) (sym (noted z shows)) shows, tt)
pins_more k last n bytes (Name m pin name) ls before after good first noted all =
    subst (λ z. AllByRecursion (ShowsPins z) (ls ++ (Name m pin name ∷ []))) (sym noted) (All-push (ShowsPins before) ls (Name m pin name) all tt)
pins_more k last n bytes (Constraint m r) ls before after good first noted all =
    subst (λ z. AllByRecursion (ShowsPins z) (ls ++ (Constraint m r ∷ []))) (sym noted) (All-push (ShowsPins before) ls (Constraint m r) all tt)
pins_more k last n bytes (Commit m r) ls before after good first noted all =
    subst (λ z. AllByRecursion (ShowsPins z) (ls ++ (Commit m r ∷ []))) (sym noted) (All-push (ShowsPins before) ls (Commit m r) all tt)

-- an N line changes the number of pins only
pub noted_pins : (line : Line) (m : ℕ) (pins count : Bor (List ℕ)) (before : Summary) (y : ℤ) → line ≡ Pins m pins count → ((z : ℤ) → ShowsPin pins.now z → y ≡ z) → Noted line before (record { pins = y; names = before.names; constraints = before.constraints; commits = before.commits })
noted_pins line m pins count before y is taken =
    subst (λ l. Noted l before (record { pins = y; names = before.names; constraints = before.constraints; commits = before.commits })) (sym is)
    (record { pins = taken; names = omega arith; constraints = omega arith; commits = omega arith })

-- a count with one line more
many_push : (l : Letter) (ls : List Line) (line : Line) (before after : ℕ) → before ≡ many l ls → after ≡ before + cond (has l line) 1 0 → after ≡ many l (ls ++ (line ∷ []))
many_push l ls line before after e noted = noted ∙ ap (λ n. n + cond (has l line) 1 0) e ∙ sym (sum_by_push (λ x. cond (has l x) 1 0) ls line)

module _ {V : Type 0} (k : ℕ) (start s t : Reader V) (sum : Summary) (line : Line) (so : Sofar k start s sum) (h : HandsOut k s t line) where
  -- there are fewer lines than bytes
  pub few : Few sum
  few =
      let short : length t.text.now ≤ limit = subst (λ x. length x.now ≤ limit) (sym h.text) h.ahead.readable.short in
      let lines : length so.ls < limit = omega (arith, so.numbered, h.number, t.counted, t.within) in
      let counted = so.counted in
      record {
        names = omega (arith, counted.names, count_by-le-length (has P) so.ls);
        constraints = omega (arith, counted.constraints, count_by-le-length (has R) so.ls);
        commits = omega (arith, counted.commits, count_by-le-length (has C) so.ls);
      }

  -- one line more
  pub sofar_more : (next : Summary) → Noted line sum next → Sofar k start t next
  sofar_more next noted = record {
    ls = so.ls ++ (line ∷ []);
    reading = λ ms f r. subst (λ l. Reading k start l f) (sym (append_assoc so.ls (line ∷ []) ms)) (so.reading (line ∷ ms) f (hands_out s t line ms f h r));
    numbered = h.number ∙ simp length-append (omega (arith, so.numbered));
    first = λ e. let z : ◌≡◌ {A = ℕ} 0 1 = cc h.last in absurd (omega arith);
    counted = record {
      pins = pins_more k s.last s.line h.bytes line so.ls sum.pins next.pins h.good so.first noted.pins so.counted.pins;
      names = many_push P so.ls line sum.names next.names so.counted.names noted.names;
      constraints = many_push R so.ls line sum.constraints next.constraints so.counted.constraints noted.constraints;
      commits = many_push C so.ls line sum.commits next.commits so.counted.commits noted.commits;
    };
  }

module _ {V : Type 0} (k : ℕ) (text : List ℕ) (start s t : Reader V) (sum : Summary) (tells : TellsTheSheet text start) (so : Sofar k start s sum) where
  -- after the last line, the count is the sheet's
  pub surveyed_all : (o : Option Line) → o ≡ None → Next k s t (Ok o) → Surveyed k text (Ok sum)
  surveyed_all o e next =
      let told = tells k (so.ls ++ []) None (so.reading [] None (comes_to_end s t (subst (λ x. Next k s t (Ok x)) e next))) in
      (so.ls, subst (λ l. Told k text l None) (append-nil so.ls) told, so.counted)

  -- at a fault, it is the sheet's first
  pub surveyed_fault : (f : Fault) → Next k s t (Err f) → Surveyed k text (Err f)
  surveyed_fault f next = (so.ls ++ [], tells k (so.ls ++ []) (Some f) (so.reading [] (Some f) (meets_fault s t f next)))

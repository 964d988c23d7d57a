-- The walk over a source's lines: it passes exactly where every line up to END has a reading and passes, and else stops at the line
-- and the check that fail first.
use Prim.Native.Nat.{ℕ, suc, ◌+◌}
use mathlib.Core.Bool.{Bool, cond}
use mathlib.Core.List.{List, [], ◌∷◌, map}
use mathlib.Core.Logic.{◌⊎◌, inl, inr}
use mathlib.Core.Path.{◌≡◌, refl, ap, ap₂, subst, ◌∙◌}
use native.Mathlib.Omega.{arith}
use lib.ListN.{length}
use Rattle.std.proofs.Common.{Option}
use Rattle.values.specs.declared.Name.{Name}
use Rattle.statements.specs.Statements.{Reading, end, Says}
use Rattle.statements.specs.FirstFailing.{Pass, First}
use Rattle.statements.specs.Judging.{judged}
use Rattle.statements.specs.Reading.{line_read}
use Rattle.statements.specs.declared.LineRead.{LineRead}
use Rattle.statements.proofs.Top as Lines
use Rattle.sources.specs.Sources.{Said, said, UpToEnd, over, ends, more, Before, at_start, further}
use Rattle.sources.specs.Placing.{Place, judged_line, after, place_after}
use Rattle.sources.specs.Order.{Refusal, line_checks, Passed}
use Rattle.sources.specs.Inner.Assembling.{Verdict, passes, refused, and_then, read_line, ends_it, up_to_end, line_verdict, walk_lines}
use Rattle.sources.proofs.Verdicts.{Tells, tells-pass, tells_first}
use Rattle.sources.proofs.Passing.{passing-says}
use Rattle.sources.proofs.LineDecided.{line-tells}
use Rattle.sources.proofs.Ends.{end-ends, others_go_on, end_or_not}

-- ---- a line with a reading

-- it is the line that `read_line` answers
pub read-line : (bytes : List ℕ) {l : Option Name} {r : Reading} → Says bytes l r → read_line bytes ≡ judged_line (said bytes l r)
read-line bytes x = ap (λ (a : LineRead). record { bytes = bytes; read = a }) (Lines.read-judged bytes x)

says-ends : (bytes : List ℕ) {l : Option Name} {r : Reading} → Says bytes l r → ends_it (line_read bytes).statement ≡ ends_it (judged r)
says-ends bytes x = ap (λ (a : LineRead). ends_it a.statement) (Lines.read-judged bytes x)

-- the lines behind it are read, unless it says END
pub cut : (bytes : List ℕ) (rest : List (List ℕ)) {b : Bool} {l : Option Name} {r : Reading} → Says bytes l r → ends_it (judged r) ≡ b
    → up_to_end (bytes ∷ rest) ≡ bytes ∷ cond b [] (up_to_end rest)
unfolding up_to_end
cut bytes rest {b} x e = let f : ends_it (line_read bytes).statement ≡ b = says-ends bytes x ∙ e in rw f

module _ (M : ℕ) where
  abbrev at_line : ℕ → Place → List ℕ → Verdict
  at_line k p bytes = line_verdict M k p (read_line bytes)

  line-passes : (k : ℕ) (p : Place) (bytes : List ℕ) → Pass (line_checks M k p bytes) → at_line k p bytes ≡ passes
  line-passes k p bytes h = tells-pass (at_line k p bytes) (line_checks M k p bytes) (line-tells M k p bytes) h

  step : (k : ℕ) (p : Place) (bytes : List ℕ) (rest : List (List ℕ)) {b : Bool} {l : Option Name} {r : Reading} → Says bytes l r
      → ends_it (judged r) ≡ b
      → walk_lines M k p (up_to_end (bytes ∷ rest))
      ≡ and_then (at_line k p bytes) (walk_lines M (k + 1) (after p (judged_line (said bytes l r))) (cond b [] (up_to_end rest)))
  unfolding walk_lines
  step k p bytes rest {b} x e = rw (cut bytes rest x e, ← read-line bytes x)

  -- ---- where every line passes

  pub walk-passes : {ls : List (List ℕ)} {xs : List Said} (k : ℕ) (p : Place) → UpToEnd ls xs → Passed M k p xs
      → walk_lines M k p (up_to_end ls) ≡ passes
  unfolding walk_lines up_to_end Passed
  walk-passes k p over h = refl
  walk-passes k p (ends {bytes} {lines} s) h =
      step k p bytes lines s end-ends ∙ ap (λ (v : Verdict). and_then v passes) (line-passes k p bytes h.0)
  walk-passes k p (more {bytes} {lines} {xs} {l} {r} s not_end u) h =
      step k p bytes lines s (others_go_on r not_end)
      ∙ ap₂ and_then (line-passes k p bytes h.0) (walk-passes (k + 1) (after p (judged_line (said bytes l r))) u h.1)

  -- ---- where a line fails

  -- the first check that fails on a line behind some that pass
  abbrev pub FailsOn : ℕ → Place → List Said → List ℕ → Refusal → Type 0
  FailsOn k p xs bytes why = First (line_checks M (k + length xs) (place_after p (map judged_line xs)) bytes) why

  first-line : (k : ℕ) (p : Place) (bytes : List ℕ) (rest : List (List ℕ)) {why : Refusal} → First (line_checks M k p bytes) why
      → walk_lines M k p (up_to_end (bytes ∷ rest)) ≡ refused why
  unfolding walk_lines up_to_end
  first-line k p bytes rest f = rw (tells_first (at_line k p bytes) (line_checks M k p bytes) (line-tells M k p bytes) f)

  pub walk-fails : {ls rest : List (List ℕ)} {xs : List Said} (bytes : List ℕ) (k : ℕ) (p : Place) {why : Refusal}
      → Before ls xs (bytes ∷ rest)
      → Passed M k p xs
      → FailsOn k p xs bytes why
      → walk_lines M k p (up_to_end ls) ≡ refused why
  unfolding Passed place_after
  walk-fails {rest = rest} bytes k p {why} at_start h f =
      let e : k + 0 ≡ k = omega arith in
      first-line k p bytes rest (subst (λ (i : ℕ). First (line_checks M i p bytes) why) e f)
  walk-fails bytes k p {why} (further {bytes = b} {lines} {rest} {xs} {l} {r} s not_end u) h f =
      let q = after p (judged_line (said b l r)) in
      let m : k + suc (length xs) ≡ k + 1 + length xs = omega arith in
      let g : FailsOn (k + 1) q xs bytes why = subst (λ (i : ℕ). First (line_checks M i (place_after q (map judged_line xs)) bytes) why) m f in
      step k p b lines s (others_go_on r not_end) ∙ ap₂ and_then (line-passes k p b h.0) (walk-fails bytes (k + 1) q u h.1 g)

  -- ---- one of the two holds

  pub data Walked (k : ℕ) (p : Place) (ls : List (List ℕ)) : Type 0 where
    all_pass : (xs : List Said) → UpToEnd ls xs → Passed M k p xs → Walked k p ls
    one-fails : (xs : List Said) (bytes : List ℕ) (rest : List (List ℕ)) (why : Refusal) → Before ls xs (bytes ∷ rest) → Passed M k p xs
        → FailsOn k p xs bytes why
        → Walked k p ls

  pub walked : (ls : List (List ℕ)) (k : ℕ) (p : Place) → Walked k p ls
  unfolding Passed place_after
  walked [] k p = all_pass [] over tt
  walked (b ∷ ls) k p = go (at_line k p b) (line-tells M k p b) (walked ls)
    where
      on : {l : Option Name} {r : Reading} → Says b l r → (r ≡ end → ⊥) → Pass (line_checks M k p b)
          → Walked (k + 1) (after p (judged_line (said b l r))) ls
          → Walked k p (b ∷ ls)
      on {l} {r} s not_end h (all_pass xs u t) = all_pass (said b l r ∷ xs) (more s not_end u) (h, t)
      on {l} {r} s not_end h (one-fails xs bytes rest why u t f) =
          let q = after p (judged_line (said b l r)) in
          let m : k + 1 + length xs ≡ k + suc (length xs) = omega arith in
          one-fails (said b l r ∷ xs) bytes rest why (further s not_end u) (h, t)
          (subst (λ (i : ℕ). First (line_checks M i (place_after q (map judged_line xs)) bytes) why) m f)

      read : {l : Option Name} {r : Reading} → (r ≡ end) ⊎ (r ≡ end → ⊥) → Says b l r → Pass (line_checks M k p b)
          → ((i : ℕ) (q : Place) → Walked i q ls)
          → Walked k p (b ∷ ls)
      read {l} {r} (inl e) s h w = all_pass (said b l end ∷ []) (ends (subst (λ (x : Reading). Says b l x) e s)) (h, tt)
      read {l} {r} (inr not_end) s h w = on s not_end h (w (k + 1) (after p (judged_line (said b l r))))

      go : (v : Verdict) → Tells v (line_checks M k p b) → ((i : ℕ) (q : Place) → Walked i q ls) → Walked k p (b ∷ ls)
      go passes h w = let x = passing-says M k p b h in read (end_or_not x.1) x.3 h w
      go (refused why) f w =
          let m : k ≡ k + 0 = omega arith in
          one-fails [] b ls why at_start tt (subst (λ (i : ℕ). First (line_checks M i p b) why) m f)

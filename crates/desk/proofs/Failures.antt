-- What is told of a failure, piece behind piece, each of them tried.
use mathlib.Core.Path.{◌≡◌, sym, subst}
use mathlib.Core.List.{List, [], ◌∷◌, ◌++◌}
use Prim.Native.Nat.{ℕ}
use Rattle.std.proofs.Common.{Option, Result, Ok, Err, OnOk}
use Rattle.std.proofs.lemmas.Result.{on_ok_weaker}
use Rattle.std.specs.Result.{result_and}
use Rattle.std.specs.Io.KnownBytes.{Appends}
use Rattle.std.proofs.KnownBytes.{Appends-trans}
use Rattle.numerals.specs.Bytes.{bytes, LF}
use Rattle.texts.specs.Lines.{text_of}
use Rattle.desk.specs.Failures.{failure_text}

pub failure-told : (what why : List ℕ) (a b c d e : Option (List ℕ)) → Appends a b what → Appends b c (bytes ": ") → Appends c d why
    → Appends d e (LF ∷ [])
    → Appends a e (failure_text what why)
unfolding text_of
failure-told what why a b c d e first second third last =
    let two = Appends-trans a b c what (bytes ": ") first second in
    let three = Appends-trans a c d (what ++ bytes ": ") why two third in
    Appends-trans a d e (what ++ bytes ": " ++ why) (LF ∷ []) three last

-- Two attempts went well: so did each.
both-ok : {T E : Type 0} (P Q : Type 0) (r s : Result T E) → OnOk r P → OnOk s Q → OnOk (result_and r s) (P × Q)
both-ok P Q (Ok x) (Ok y) p q = (p, q)
both-ok P Q (Ok x) (Err e) p q = tt
both-ok P Q (Err d) (Ok y) p q = tt
both-ok P Q (Err d) (Err e) p q = tt

module _ {T E : Type 0} (what why : List ℕ) (a b c d e : Option (List ℕ)) (r s t u : Result T E) {rs rst rstu : Result T E} where
  -- no piece failed, where the first failure of the four is none
  pub all-told : rs ≡ result_and r s → rst ≡ result_and rs t → rstu ≡ result_and rst u → OnOk r (Appends a b what)
      → OnOk s (Appends b c (bytes ": "))
      → OnOk t (Appends c d why)
      → OnOk u (Appends d e (LF ∷ []))
      → OnOk rstu ((w : List ℕ) × Appends a e (failure_text what w))
  all-told i j k first second third last =
      let Two = Appends a b what × Appends b c (bytes ": ") in
      let Three = Two × Appends c d why in
      let two : OnOk rs Two = subst (λ (x : Result T E). OnOk x Two) (sym i) (both-ok (Appends a b what) (Appends b c (bytes ": ")) r s first second) in
      let three : OnOk rst Three = subst (λ (x : Result T E). OnOk x Three) (sym j) (both-ok Two (Appends c d why) rs t two third) in
      let four : OnOk rstu (Three × Appends d e (LF ∷ [])) =
      subst (λ (x : Result T E). OnOk x (Three × Appends d e (LF ∷ []))) (sym k) (both-ok Three (Appends d e (LF ∷ [])) rst u three last) in
      on_ok_weaker rstu (λ all. (why, failure-told what why a b c d e all.0.0.0 all.0.0.1 all.0.1 all.1)) four

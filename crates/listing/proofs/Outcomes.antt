-- One law for each way out of listing, over plain variables: what its promise then says.
use Prim.Native.Nat.{ℕ, ◌≤◌, ◌<◌}
use mathlib.Core.Bool.{Bool, true, false, cond, ◌||◌}
use mathlib.Core.List.{List}
use mathlib.Core.Path.{◌≡◌, refl, sym, ap, ◌∙◌}
use native.Mathlib.Omega.{arith}
use lib.Dec.{ltb}
use lib.ListN.{length}
use borrow.Author.Tests.{lt-ltb, le-ltb}
use Rattle.codes.specs.Limits.{longest_source}
use Rattle.image.specs.Printing.{good_loan}
use Rattle.isa.proofs.Tests.{never}
use Rattle.isa.specs.declared.Address.{Address}
use Rattle.ports.specs.Overwriting.{overwrite}
use Rattle.texts.proofs.Rooms.{overwrite-front}
use Rattle.listing.specs.Lines.{text_of_lines}
use Rattle.listing.specs.Listing.{Leaves, leaves, refused, given, Replies, bad-loan}
use Rattle.listing.specs.Inner.Walk.{Found, found, failing, lines_of, reply_by, list_of}
use Rattle.listing.specs.Inner.Begins.{found_text, was_found, measure_of}
use Rattle.std.proofs.Common.{Ok, Err}
use Rattle.listing.specs.declared.NotListed.TheVariants.{BadLoan, Undecoded, TooLong}
use Rattle.listing.proofs.Exactly.{exactly}

-- ---- what was measured

pub measured-long : (f : Found) {n : ℕ} → measure_of f ≡ Ok n → (was_found f ≡ true) × (n ≡ length (found_text f))
measured-long (found es) e = (refl, cc)
measured-long (failing a) e = never (cc)

measured-fails : (f : Found) {a : Address} → measure_of f ≡ Err a → f ≡ failing a.0
measured-fails (found es) e = never (cc)
measured-fails (failing b) {a} e = let z : ◌≡◌ {A = Address} (record { 0 = b }) a = cc in ap (λ (x : Address). failing x.0) z

-- ---- the text's length against the room and 32,768

module _ (room : List ℕ) where
  pub given-short : (f : Found) {n : ℕ} → measure_of f ≡ Ok n → length room < n → leaves (Err TooLong) room ≡ reply_by room f
  given-short (found es) e h =
      let z : length (text_of_lines es) ≡ _ = sym (measured-long (found es) e).1 in
      rw (lt-ltb (length room) (length (text_of_lines es)) (omega (arith, z)))
  given-short (failing a) e h = never (cc)

  pub given_above : (f : Found) {n : ℕ} → measure_of f ≡ Ok n → longest_source < n → leaves (Err TooLong) room ≡ reply_by room f
  given_above (found es) e h =
      let z = (measured-long (found es) e).1 in
      rw (lt-ltb longest_source (length (text_of_lines es)) (omega (arith, z))) (either (ltb (length room) (length (text_of_lines es))))
    where
      either : (b : Bool) → refused 3 0 room ≡ cond (b || true) (refused 3 0 room) (given (text_of_lines es) room)
      either true = refl
      either false = refl
  given_above (failing a) e h = never (cc)

  pub given-done : (f : Found) {n : ℕ} {after : List ℕ} → measure_of f ≡ Ok n → n ≤ length room → n ≤ longest_source
      → after ≡ overwrite room 0 (found_text f)
      → leaves (Ok n) after ≡ reply_by room f
  given-done (found es) e h k w =
      let z = (measured-long (found es) e).1 in
      rw (
        le-ltb (length room) (length (text_of_lines es)) (omega (arith, z)),
        le-ltb longest_source (length (text_of_lines es)) (omega (arith, z)),
        w,
        overwrite-front room (text_of_lines es),
        z,
      )
  given-done (failing a) e h k w = never (cc)

-- ---- the reply

module _ (memory marks room : List ℕ) where
  pub lists-bad : good_loan memory marks ≡ false → Replies memory marks room (leaves (Err BadLoan) room)
  lists-bad e = bad-loan e

  pub lists-good : {l : Leaves} → good_loan memory marks ≡ true → l ≡ reply_by room (lines_of memory marks) → Replies memory marks room l
  unfolding list_of
  lists-good {l} g e = (exactly memory marks room l).0 (whole ∙ sym e)
    where
      whole : list_of memory marks room ≡ reply_by room (lines_of memory marks)
      whole = rw g

  pub lists-undecoded : {a : Address} → good_loan memory marks ≡ true → Err a ≡ measure_of (lines_of memory marks)
      → Replies memory marks room (leaves (Err (Undecoded a)) room)
  lists-undecoded {a} g e = lists-good g (sym (ap (reply_by room) (measured-fails (lines_of memory marks) (sym e))))

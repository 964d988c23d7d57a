-- What the listing promises (02, K1 and K2), restated for a reader. The promise of `list` itself stands in src/giving.rt; the arguments are in
-- the files beside this one. That a listing assembles back stands in the crate `recovered`.
use Prim.Native.Nat.{ℕ, ◌≤◌, ◌<◌}
use mathlib.Core.Bool.{true}
use mathlib.Core.List.{List, [], ◌∷◌, ◌++◌}
use mathlib.Core.Logic.{◌↔◌, inr}
use mathlib.Core.Path.{◌≡◌, refl, sym, ap, ◌∙◌}
use native.Mathlib.Omega.{arith}
use lib.ListN.{length, get_or}
use Rattle.codes.specs.Marks.{free, reserved_mark}
use Rattle.numerals.specs.Bytes.{bytes, LF}
use Rattle.image.specs.Printing.{good_loan}
use Rattle.listing.specs.Lines.{text_of_lines}
use Rattle.listing.specs.Runs.{Run, Runs}
use Rattle.listing.specs.Listing.{RunLines, LinesOf, Leaves, leaves, refused, given, Replies, bad-loan, undecoded, too_long, gives}
use Rattle.listing.specs.Inner.Walk.{list_of}
use Rattle.listing.specs.declared.Entry.{Entry}
use Rattle.listing.specs.declared.Entry.TheVariants.{Reserves}
use Rattle.std.proofs.Common.{Result, Ok, Err}
use Rattle.listing.specs.declared.NotListed.{NotListed}
use Rattle.listing.specs.declared.NotListed.TheVariants.{BadLoan, Undecoded, TooLong}
use Rattle.listing.proofs.Covered.{one_list}
use Rattle.listing.proofs.Exactly as Exactly
use Rattle.listing.proofs.Cleared as Cleared
use Rattle.listing.proofs.Reserved as Reserved
use Rattle.listing.proofs.Examples as Examples

-- ---- exactly

-- the answer that what is left tells of
abbrev answer_in : Leaves → Result ℕ NotListed
answer_in l = get_or (Ok l.text ∷ (Err BadLoan) ∷ (Err (Undecoded (record { 0 = l.address }))) ∷ []) l.refusal (Err TooLong)

answer_back : (r : Result ℕ NotListed) (room : List ℕ) → answer_in (leaves r room) ≡ r
answer_back (Ok n) room = refl
answer_back (Err BadLoan) room = refl
answer_back (Err (Undecoded a)) room = refl
answer_back (Err TooLong) room = refl

module _ (memory marks room : List ℕ) where
  -- the listing as a function answers as its meaning says, and what its meaning says is its answer
  pub answers_exactly : (l : Leaves) → (list_of memory marks room ≡ l) ↔ Replies memory marks room l
  answers_exactly = Exactly.exactly memory marks room

  -- every memory, map and room has a reply
  pub some-reply : (l : Leaves) × Replies memory marks room l
  some-reply = (list_of memory marks room, Exactly.replies memory marks room)

  -- and one only
  pub one-reply : {l l' : Leaves} → Replies memory marks room l → Replies memory marks room l' → l ≡ l'
  one-reply h h' = sym (Exactly.replied memory marks room h) ∙ Exactly.replied memory marks room h'

  -- so two answers that keep the promise of `list`, with the rooms they leave, are one
  pub one_answer : {r s : Result ℕ NotListed} {xs ys : List ℕ} → Replies memory marks room (leaves r xs) → Replies memory marks room (leaves s ys)
      → (r ≡ s) × (xs ≡ ys)
  one_answer {r} {s} {xs} {ys} h h' =
      let e = one-reply h h' in
      (sym (answer_back r xs) ∙ ap answer_in e ∙ answer_back s ys, ap (λ (l : Leaves). l.room) e)

  -- "nothing written": a refusal leaves the room as it was
  pub refused_unchanged : {l : Leaves} → Replies memory marks room l → (l.refusal ≡ 0 → ⊥) → l.room ≡ room
  refused_unchanged (bad-loan g) n = refl
  refused_unchanged (undecoded g h b) n = refl
  refused_unchanged (too_long g h t b) n = refl
  refused_unchanged (gives g h t b d) n = absurd (n refl)

  -- "3 text above .. 32,768 bytes": so many are given, where there is room for them,
  module _ {rs : List Run} {es : List Entry} (lent : good_loan memory marks ≡ true) (runs : Runs memory marks 0 rs) (lines : LinesOf 0 rs es) where
    pub at_the_limit : length (text_of_lines es) ≡ 32768 → 32768 ≤ length room → list_of memory marks room ≡ given (text_of_lines es) room
    at_the_limit e h = Exactly.replied memory marks room (gives lent runs lines (omega (arith, e)) (omega (arith, e)))

    -- and one more is 3, whatever the room
    pub above_the_limit : length (text_of_lines es) ≡ 32769 → list_of memory marks room ≡ refused 3 0 room
    above_the_limit e = Exactly.replied memory marks room (too_long lent runs lines (inr (omega (arith, e))))

-- ---- the runs

-- "each run of claimed cells": memory and map have one list of runs
pub one_list_of_runs : {memory marks : List ℕ} {at : ℕ} {rs ss : List Run} → Runs memory marks at rs → Runs memory marks at ss → rs ≡ ss
one_list_of_runs {memory} {marks} = one_list memory marks

-- ---- free and reserved cells

-- the value of a free cell and of a reserved one is never looked at: with 0 in each of them the reply is the same
pub unseen : (memory marks room : List ℕ) → list_of (Cleared.cleared memory marks) marks room ≡ list_of memory marks room
unseen = Cleared.unseen

-- "K1 lists a run as `RES n`"
pub reserved_as_one : {r : Run} → r.mark ≡ reserved_mark → length r.cells ≤ 65535 → RunLines r (Reserves (length r.cells) ∷ [])
reserved_as_one = Reserved.as_one

-- "(a run of 65,536 as `RES 65535`, `RES 1`)": such a run is a whole memory, and this its listing
module _ (memory marks room : List ℕ) (cells : length memory ≡ 65536) (map : length marks ≡ 65536)
    (all : (a : ℕ) → a < 65536 → get_or marks a free ≡ reserved_mark) where
  pub all-reserved : 20 ≤ length room
      → list_of memory marks room ≡ given (bytes "RES 65535" ++ (LF ∷ bytes "RES 1" ++ (LF ∷ bytes "END" ++ (LF ∷ [])))) room
  all-reserved = Reserved.all-reserved memory marks room cells map all

-- ---- worked examples

pub examples : Examples.Examples
examples = Examples.examples

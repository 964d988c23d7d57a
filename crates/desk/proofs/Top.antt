-- What the crate promises, for a reader. `size_of` answers `size_of` of a word (specs/Sizes.antt). What `print_refusal` writes out it first has
-- made in a room: the three lines and the sentence of specs/Refusals.antt and the excerpt of specs/Excerpts.antt, each at the room's head
-- (`AtHead`). A writer whose bytes are known has these behind its own, where nothing failed; what the system does with them no promise determines.
use mathlib.Core.Path.{◌≡◌, refl, sym, ◌∙◌}
use mathlib.Core.List.{List}
use Prim.Native.Nat.{ℕ, ◌≤◌, ◌<◌}
use native.Mathlib.Omega.{arith}
use borrow.Author.Tests.{le-leb}
use lib.ListN.{length, take, drop}
use lib.Seq.{take_at}
use Rattle.std.proofs.Common.{Option}
use Rattle.ports.specs.Input.{Passed}
use Rattle.columns.specs.declared.Column.{Column}
use Rattle.sources.specs.declared.Line.{Line}
use Rattle.desk.specs.Sizes.{size_of}
use Rattle.desk.specs.Putting.{PutSo}
use Rattle.desk.specs.Refusals.{line_told, column_told, reason_of, no_reason, longest_path, name_told, AtHead}
use Rattle.desk.proofs.Told as told
use Rattle.desk.proofs.Examples as worked

-- ---- a refusal, told

-- A line's number is told whole: a source has at most 32,769 lines.
pub line-told : (line : Line) → line.0 < 4294967296 → line_told line ≡ line.0
line-told line h = omega arith

-- A column's too.
pub column-told : (column : Column) → column.0 < 4294967296 → column_told column ≡ column.0
column-told column h = omega arith

-- A path that the system hands over is told whole.
pub name-told : (path : List ℕ) → length path ≤ longest_path → name_told path ≡ path
name-told path h = rw (le-leb (length path) longest_path h)

-- What is written out, the room up to the reply, is the text and nothing else.
pub written_out : (text room : List ℕ) {after : List ℕ} {reply : ℕ} → AtHead text room after reply → take reply after ≡ text
written_out text room p = rw (p.1, p.0) (take_at text (drop (length text) room) (length text) refl)

-- No number but 1 to 4 and 6 to 16 has a reason.
pub no_other : (n : ℕ) → 16 < n → reason_of n ≡ no_reason
no_other = told.past-reasons

pub no_five : reason_of 5 ≡ no_reason
no_five = told.five 5 refl

-- ---- examples, and one reply

pub sizes : worked.Sizes
sizes = worked.sizes

pub its-reasons : worked.Reasons
its-reasons = worked.its-reasons

pub texts : worked.Texts
texts = worked.texts

pub excerpts : worked.Excerpts
excerpts = worked.excerpts

-- "That two replies meeting it coincide".
pub sizes-coincide : (word : List ℕ) {r s : Option ℕ} → r ≡ size_of word → s ≡ size_of word → r ≡ s
sizes-coincide word p q = p ∙ sym q

pub heads-coincide : (text room : List ℕ) {xs ys : List ℕ} {r s : ℕ} → AtHead text room xs r → AtHead text room ys s → (r ≡ s) × (xs ≡ ys)
heads-coincide text room p q = (p.0 ∙ sym q.0, p.1 ∙ sym q.1)

pub puts-coincide : (at : ℕ) (put : Passed) {xs ys : List ℕ} {r s : ℕ} → PutSo at put xs r → PutSo at put ys s → (r ≡ s) × (xs ≡ ys)
puts-coincide at put p q = (p.0 ∙ sym q.0, p.1 ∙ sym q.1)

-- A listing's lines as the assembler takes them, each by its entry: what it says, does and gives; and the lines of the whole text.
use Prim.Native.Nat.{ℕ, ◌+◌, ◌<◌}
use mathlib.Core.List.{List, [], ◌∷◌, map}
use mathlib.Core.Path.{◌≡◌, refl, sym, ap}
use native.Mathlib.Omega.{arith}
use lib.Dec.{T}
use lib.ListN.{length, replicate, length-replicate}
use Rattle.codes.specs.Marks.{free, code_mark, data_mark, reserved_mark}
use Rattle.numerals.specs.Writing.{decimal}
use Rattle.numerals.proofs.Top.{decimal-right}
use Rattle.isa.specs.Encoding.{words_of}
use Rattle.isa.proofs.Top.{words_count}
use Rattle.tokens.specs.Lines as L
use Rattle.tokens.specs.Lines.{no_lf, Lines}
use Rattle.tokens.proofs.LinesOf.{word-no_lf, mark-no_lf, join-no_lf}
use Rattle.std.proofs.Common.{None, Result, Ok}
use Rattle.statements.specs.declared.Failure.{Failure}
use Rattle.expressions.specs.Trees.{literal}
use Rattle.operands.proofs.Back.{plainly}
use Rattle.statements.specs.Statements.{Reading, org, res, end, Says}
use Rattle.statements.specs.Judging.{judged}
use Rattle.statements.specs.declared.Statement.{Statement}
use Rattle.statements.specs.declared.Statement.TheVariants as S
use Rattle.sources.specs.Sources.{Said, said}
use Rattle.sources.specs.Placing.{does, does_read, Bound, moved_by}
use Rattle.sources.specs.Image.{given_by}
use Rattle.listing.specs.Pieces.{Piece, word, number, mark, space, text_of}
use Rattle.listing.specs.Lines.{line_of, entry_pieces, text_of_lines}
use Rattle.listing.specs.declared.Entry.{Entry}
use Rattle.listing.specs.declared.Entry.TheVariants.{Origin, Instructs, Holds, Reserves, Finish}
use Rattle.recovered.proofs.Pieces.{Fine}
use Rattle.recovered.proofs.Names.{org_is_word, res_is_word, data_is_word}
use Rattle.recovered.proofs.Said.{Sound, data_reading, reading_of, data_says, org-says, res-says, end-says, instruction-says, data_judged, org-judged, res-judged, instruction-judged, instruction-gives, number-fine, end-fine, instruction-fine}

-- what a line has to be to be written
abbrev pub Writable : Entry → Type 0
Writable (Origin a) = a.0 < 65536
Writable (Instructs i) = Sound i
Writable (Holds x) = x < 65536
Writable (Reserves n) = n < 65536
Writable Finish = Unit {0}

-- what its line says, and the statement that this passes as
abbrev pub reading_in : Entry → Reading
reading_in (Origin a) = org (literal a.0)
reading_in (Instructs i) = reading_of i
reading_in (Holds x) = data_reading x
reading_in (Reserves n) = res (literal n)
reading_in Finish = end

abbrev pub said_in : Entry → Said
said_in e = said (line_of e) None (reading_in e)

abbrev pub statement_in : Entry → Statement
statement_in (Origin a) = S.Org a.0
statement_in (Instructs i) = S.Instruction i.op (plainly i.first) (plainly i.second)
statement_in (Holds x) = S.Data 1
statement_in (Reserves n) = S.Res n
statement_in Finish = S.End

-- the cells it lists, and their mark
abbrev pub cells_in : Entry → List ℕ
cells_in (Origin a) = []
cells_in (Instructs i) = words_of i
cells_in (Holds x) = x ∷ []
cells_in (Reserves n) = replicate n 0
cells_in Finish = []

abbrev pub mark_in : Entry → ℕ
mark_in (Origin a) = free
mark_in (Instructs i) = code_mark
mark_in (Holds x) = data_mark
mark_in (Reserves n) = reserved_mark
mark_in Finish = free

-- the address behind it
abbrev pub next_in : ℕ → Entry → ℕ
next_in at (Origin a) = a.0
next_in at (Instructs i) = at + length (words_of i)
next_in at (Holds x) = at + 1
next_in at (Reserves n) = at + n
next_in at Finish = at

-- its line says so
pub entry-says : (e : Entry) → Writable e → Says (line_of e) None (reading_in e)
entry-says (Origin a) h = org-says a.0 h
entry-says (Instructs i) h = instruction-says i h
entry-says (Holds x) h = data_says x h
entry-says (Reserves n) h = res-says n h
entry-says Finish h = end-says

-- and passes every check of a line by itself
pub entry-judged : (e : Entry) → Writable e → judged (reading_in e) ≡ Ok (statement_in e)
unfolding judged
entry-judged (Origin a) h = org-judged a.0 h
entry-judged (Instructs i) h = instruction-judged i h
entry-judged (Holds x) h = (data_judged x h).0
entry-judged (Reserves n) h = res-judged n h
entry-judged Finish h = refl

-- it gives the cells that it lists
pub entry_gives : (bs : List Bound) (next : ℕ) (e : Entry) → Writable e → given_by bs (line_of e) next (reading_in e) ≡ cells_in e
unfolding does
entry_gives bs next (Origin a) h = refl
entry_gives bs next (Instructs i) h = instruction-gives i h bs (line_of (Instructs i)) next
entry_gives bs next (Holds x) h = (data_judged x h).1
entry_gives bs next (Reserves n) h = ap (λ (s : Result Statement Failure). replicate (does_read s).claims 0) (res-judged n h)
entry_gives bs next Finish h = refl

-- as many cells as it lists are claimed, with their mark
pub entry-claims : (e : Entry) → Writable e → (does (statement_in e)).claims ≡ length (cells_in e)
unfolding does
entry-claims (Origin a) h = refl
entry-claims (Instructs i) h = sym (words_count i h.is_allowed)
entry-claims (Holds x) h = refl
entry-claims (Reserves n) h = sym (length-replicate n 0)
entry-claims Finish h = refl

pub entry-mark : (e : Entry) → (does (statement_in e)).mark ≡ mark_in e
unfolding does
entry-mark (Origin a) = refl
entry-mark (Instructs i) = refl
entry-mark (Holds x) = refl
entry-mark (Reserves n) = refl
entry-mark Finish = refl

-- and the next line begins behind it
pub entry-moves : (at : ℕ) (e : Entry) → Writable e → moved_by (does (statement_in e)).moves at ≡ next_in at e
unfolding does
entry-moves at (Origin a) h = refl
entry-moves at (Instructs i) h = ap (λ (n : ℕ). at + n) (sym (words_count i h.is_allowed))
entry-moves at (Holds x) h = refl
entry-moves at (Reserves n) h = refl
entry-moves at Finish h = omega arith

-- ---- the text's lines

-- pieces hold no LF
fine-no_lf : (ps : List Piece) → Fine ps → T (no_lf (text_of ps))
unfolding Fine text_of
fine-no_lf [] f = tt
fine-no_lf (word w ∷ ps) f = join-no_lf w (text_of ps) (word-no_lf 17 w (omega arith) f.1) (fine-no_lf ps f.3)
fine-no_lf (number n ∷ ps) f =
    join-no_lf (decimal n) (text_of ps) (word-no_lf 10 (decimal n) (omega arith) (decimal-right n (omega (arith, f.0))).are-digits.all) (fine-no_lf ps f.2)
fine-no_lf (mark b ∷ ps) f = join-no_lf (b ∷ []) (text_of ps) (mark-no_lf b f.0) (fine-no_lf ps f.1)
fine-no_lf (space ∷ ps) f = fine-no_lf ps f

-- every line can be written
abbrev pub AllWritable : List Entry → Type 0
AllWritable [] = Unit {0}
AllWritable (e ∷ es) = Writable e × AllWritable es

entry-fine : (e : Entry) → Writable e → Fine (entry_pieces e)
entry-fine (Origin a) h = number-fine "ORG" a.0 org_is_word h
entry-fine (Instructs i) h = instruction-fine i h
entry-fine (Holds x) h = number-fine "DATA" x data_is_word h
entry-fine (Reserves n) h = number-fine "RES" n res_is_word h
entry-fine Finish h = end-fine

-- the lines of a listing's text are those of its entries
pub text-lines : (es : List Entry) → AllWritable es → Lines (text_of_lines es) (map line_of es)
unfolding text_of_lines
text-lines [] h = L.none
text-lines (e ∷ es) h = L.more (fine-no_lf (entry_pieces e) (entry-fine e h.0)) (text-lines es h.1)

-- Adding a comment, or blanks between tokens, changes no image: two sources whose lines up to END have the same tokens are assembled alike,
-- to the same memory and map or to the same refusal on the same line.
--
-- What "the same tokens" allows and what not is in tokens' Spacing.antt, and SpacingExamples.antt computes it for a few lines; tokens'
-- Respacing.antt has it in bytes: a comment or blanks at a line's end, blanks at its start, and blanks between two of its tokens, give a line
-- with the same tokens. `spacing_same` is the law for whole sources, and below it stands what it says of one line of a source.
--
-- CommentLines.antt adds lines of blanks and a comment alone: the image stays, a refusal's line moves. Comments.antt asks nothing of the line
-- that a comment is added to, where the source is accepted.
use Prim.Native.Nat.{ℕ, suc, ◌+◌, ◌≤◌}
use mathlib.Core.Bool.{Bool, true, false, cond, false≢true}
use mathlib.Core.List.{List, [], ◌∷◌, ◌++◌, map}
use mathlib.Core.Path.{◌≡◌, refl, sym, ap, subst₂, ◌∙◌}
use lib.Dec.{T}
use lib.ListN.{length}
use borrow.Author.Tests.{le-ltb}
use Rattle.tokens.specs.Lines.{Lines}
use Rattle.tokens.specs.Reading.{lines_of}
use Rattle.tokens.proofs.Top.{source_lines, one_list}
use Rattle.tokens.specs.Bytes.{is_blank}
use Rattle.tokens.specs.Rows.{Row, RowOf}
use Rattle.tokens.specs.declared.Kind.TheVariants.{End}
use Rattle.tokens.specs.declared.Token.{Token}
use Rattle.tokens.proofs.Spacing.{Alike, Over}
use Rattle.tokens.proofs.Respacing.{NoStray, last_kind, apart, AllBlank, Loose, line-itself, comment-added, blanks-first, blanks_widened, blanks-between}
use Rattle.names.specs.declared.Word.{Word}
use Rattle.std.proofs.Common.{Option, Result, Ok}
use Rattle.statements.specs.declared.Failure.{Failure}
use Rattle.values.specs.declared.Name.{Name}
use Rattle.values.proofs.Spacing.{AlikeLabel, absent, named, AlikeList, none, some}
use Rattle.isa.specs.declared.Operand.{Operand}
use Rattle.operands.specs.declared.Given.{Given}
use Rattle.operands.proofs.Spacing.{AlikeGiven}
use Rattle.statements.specs.Statements.{end, Says, HasWord}
use Rattle.statements.specs.Judging.{judged}
use Rattle.statements.specs.Cells.{cells_in}
use Rattle.statements.specs.Reading.{line_read}
use Rattle.statements.specs.declared.Statement.{Statement}
use Rattle.statements.specs.declared.Statement.TheVariants as S
use Rattle.statements.proofs.Spacing.{placeless, AlikeStatement, instruction, other, fails, ReadAlike, signless, alike_read, signless-read, end_read}
use Rattle.statements.proofs.Top.{read-judged}
use Rattle.codes.specs.Limits.{longest_source}
use Rattle.sources.specs.Placing.{does, does_read, Place, start, label_in, labelled, after}
use Rattle.sources.specs.Uses.{use_by, use_of, uses_by, uses_read}
use Rattle.sources.specs.Inner.Assembling.{read_line, ends_it, up_to_end, loan_verdict, label_verdict, own_verdict, line_verdict, walk_lines, raw_read, Work, start_work, worked, work_after, verdict_of, assemble_of}

-- ---- what is the same of two lines that read alike

module _ (b b' : List ℕ) where
  label_in_same : {l l' : Option Name} → AlikeLabel b b' l l' → label_in b l ≡ label_in b' l'
  label_in_same absent = refl
  label_in_same (named e) = ap (λ (w : List ℕ). w ∷ []) e

  label_verdict_same : (k : ℕ) (p : Place) {l l' : Option Name} → AlikeLabel b b' l l' → label_verdict k p b l ≡ label_verdict k p b' l'
  label_verdict_same k p absent = refl
  label_verdict_same k p (named e) = rw e

  does-same : {r r' : Result Statement Failure} → AlikeStatement b b' r r' → does_read r ≡ does_read r'
  unfolding does
  does-same (instruction h g) = refl
  does-same (other s t) = refl
  does-same (fails why) = refl

  own_same : (k : ℕ) {r r' : Result Statement Failure} → AlikeStatement b b' r r' → own_verdict k r ≡ own_verdict k r'
  own_same k (instruction h g) = refl
  own_same k (other s t) = refl
  own_same k (fails why) = refl

  pub ends_same : {r r' : Result Statement Failure} → AlikeStatement b b' r r' → ends_it r ≡ ends_it r'
  ends_same (instruction h g) = refl
  ends_same (other s t) = refl
  ends_same (fails why) = refl

  raw_by_same : (s : Statement) → T (placeless s) → cells_in b ≡ cells_in b' → raw_read b (Ok s) ≡ raw_read b' (Ok s)
  raw_by_same S.Nothing t e = refl
  raw_by_same (S.Instruction op x y) t e = absurd t
  raw_by_same (S.Org v) t e = refl
  raw_by_same (S.Equ v) t e = refl
  raw_by_same (S.Res v) t e = refl
  raw_by_same (S.Data n) t e = e
  raw_by_same S.End t e = refl

  raw_same : {r r' : Result Statement Failure} → AlikeStatement b b' r r' → cells_in b ≡ cells_in b' → raw_read b r ≡ raw_read b' r'
  raw_same (instruction {op} h g) e = rw (h.operand, g.operand)
  raw_same (other s t) e = raw_by_same s t e
  raw_same (fails why) e = refl

  use_same : (k cell next : ℕ) {g g' : Given} → AlikeGiven b b' g g' → use_of k b cell next g ≡ use_of k b' cell next g'
  use_same k cell next {g} {g'} h = go g.operand g'.operand h.operand h.label
    where
      go : (o o' : Operand) → o ≡ o' → {l l' : Option Name} → AlikeLabel b b' l l'
          → use_by k b cell next o l ≡ use_by k b' cell next o' l'
      go o o' e absent = refl
      go o o' e (named w) = rw (e, w)

  uses_by_same : (k at : ℕ) (s : Statement) → T (placeless s) → uses_read k b at (Ok s) ≡ uses_read k b' at (Ok s)
  unfolding uses_by
  uses_by_same k at S.Nothing t = refl
  uses_by_same k at (S.Instruction op x y) t = absurd t
  uses_by_same k at (S.Org v) t = refl
  uses_by_same k at (S.Equ v) t = refl
  uses_by_same k at (S.Res v) t = refl
  uses_by_same k at (S.Data n) t = refl
  uses_by_same k at S.End t = refl

  uses-same : (k at : ℕ) {r r' : Result Statement Failure} → AlikeStatement b b' r r' → uses_read k b at r ≡ uses_read k b' at r'
  unfolding uses_by
  uses-same k at (instruction h g) = rw (use_same k (at + 1) _ h, h.operand, use_same k _ _ g)
  uses-same k at (other s t) = uses_by_same k at s t
  uses-same k at (fails why) = refl

  module _ (h : ReadAlike b b') where
    labelled-same : (p : Place) → labelled p b (line_read b).label ≡ labelled p b' (line_read b').label
    labelled-same p = rw (label_in_same h.label)

    pub after_same : (p : Place) → after p (read_line b) ≡ after p (read_line b')
    unfolding after
    after_same p = rw (labelled-same p, does-same h.statement)

    pub verdict-same : (M k : ℕ) (p : Place) → line_verdict M k p (read_line b) ≡ line_verdict M k p (read_line b')
    unfolding line_verdict
    verdict-same M k p = rw (label_verdict_same k p h.label, own_same k h.statement, labelled-same p, does-same h.statement)

    pub worked_same : (k : ℕ) (w : Work) → worked k w (read_line b) ≡ worked k w (read_line b')
    unfolding worked
    worked_same k w = rw (after_same w.place, raw_same h.statement h.cells, uses-same k w.place.at h.statement)

-- ---- lines one by one

abbrev pub Lists : List (List ℕ) → List (List ℕ) → Type 0
Lists bs bs' = AlikeList ReadAlike bs bs'

walk_same : (M k : ℕ) (p : Place) {bs bs' : List (List ℕ)} → Lists bs bs' → walk_lines M k p bs ≡ walk_lines M k p bs'
unfolding walk_lines
walk_same M k p none = refl
walk_same M k p (some {a = b} {a' = b'} h l) = rw (verdict-same b b' h M k p, after_same b b' h p, walk_same M (k + 1) (after p (read_line b')) l)

work-same : (k : ℕ) (w : Work) {bs bs' : List (List ℕ)} → Lists bs bs' → work_after k w (map read_line bs) ≡ work_after k w (map read_line bs')
unfolding work_after
work-same k w none = refl
work-same k w (some {a = b} {a' = b'} {xs = bs} h l) =
    ap (λ (v : Work). work_after (k + 1) v (map read_line bs)) (worked_same b b' h k w) ∙ work-same (k + 1) (worked k w (read_line b')) l

length-same : {bs bs' : List (List ℕ)} → Lists bs bs' → length bs ≡ length bs'
length-same none = refl
length-same (some h l) = ap suc (length-same l)

-- ---- sources

-- two lines with the same tokens; whether a number follows a `-` directly may differ where the statement has no operand and no item
pub data SameTokens : List ℕ → List ℕ → Type 0 where
  tokens : {b b' : List ℕ} → Alike true b b' → SameTokens b b'
  signless-tokens : {b b' : List ℕ} {x : Word} → Alike false b b' → HasWord b x → T (signless x) → SameTokens b b'

-- the lines of two sources, one by one with the same tokens, up to END; "All bytes after END as a statement's word are ignored"
pub data SameLines : List (List ℕ) → List (List ℕ) → Type 0 where
  over : SameLines [] []
  line : {b b' : List ℕ} {bs bs' : List (List ℕ)} → SameTokens b b' → SameLines bs bs' → SameLines (b ∷ bs) (b' ∷ bs')
  ends : {b b' : List ℕ} {bs bs' : List (List ℕ)} {l l' : Option Name} → Says b l end → Says b' l' end → AlikeLabel b b' l l'
      → SameLines (b ∷ bs) (b' ∷ bs')

pub read_alike : {b b' : List ℕ} → SameTokens b b' → ReadAlike b b'
read_alike (tokens a) = alike_read a
read_alike (signless-tokens a w t) = signless-read a w t

pub says-ends : {b : List ℕ} {l : Option Name} → Says b l end → ends_it (line_read b).statement ≡ true
unfolding judged
says-ends {b} e = rw (read-judged b e)

pub cut-alike : (y y' : Bool) → y ≡ y' → {bs bs' : List (List ℕ)} → Lists bs bs' → Lists (cond y [] bs) (cond y' [] bs')
cut-alike true true e l = none
cut-alike true false e l = absurd (false≢true (sym e))
cut-alike false true e l = absurd (false≢true e)
cut-alike false false e l = l

lists-alike : {bs bs' : List (List ℕ)} → SameLines bs bs' → Lists (up_to_end bs) (up_to_end bs')
unfolding up_to_end
lists-alike over = none
lists-alike (line {b} {b'} h r) =
    let g = read_alike h in
    some g (cut-alike (ends_it (line_read b).statement) (ends_it (line_read b').statement) (ends_same b b' g.statement) (lists-alike r))
lists-alike (ends {b} {b'} e e' h) = rw (says-ends e, says-ends e') (some (end_read e e' h) none)

pub loans-same : (M N : ℕ) (source source' : List ℕ) → length source ≤ longest_source → length source' ≤ longest_source
    → loan_verdict M N source ≡ loan_verdict M N source'
unfolding loan_verdict
loans-same M N source source' n n' = rw (le-ltb longest_source (length source) n, le-ltb longest_source (length source') n')

-- the assembler reads a source's lines up to END alone
pub parts_same : (M N : ℕ) (source source' : List ℕ) → loan_verdict M N source ≡ loan_verdict M N source'
    → Lists (up_to_end (lines_of source)) (up_to_end (lines_of source'))
    → assemble_of M N source ≡ assemble_of M N source'
unfolding assemble_of verdict_of
parts_same M N source source' e l = rw (e, walk_same M 1 (start M) l, work-same 1 (start_work M) l, length-same l)

-- Sources with the same tokens in each line up to END, none of them longer than a source may be, are assembled alike: the same memory and
-- map, or the same refusal on the same line.
pub spacing_same : (M N : ℕ) {source source' : List ℕ} {lines lines' : List (List ℕ)} → Lines source lines → Lines source' lines'
    → SameLines lines lines'
    → length source ≤ longest_source
    → length source' ≤ longest_source
    → assemble_of M N source ≡ assemble_of M N source'
spacing_same M N {source} {source'} has has' same n n' =
    parts_same M N source source' (loans-same M N source source' n n')
    (subst₂ (λ (bs bs' : List (List ℕ)). Lists (up_to_end bs) (up_to_end bs')) (one_list has (source_lines source)) (one_list has' (source_lines source'))
    (lists-alike same))

-- ---- one line of a source

itself : (bs : List (List ℕ)) → SameLines bs bs
itself [] = over
itself (b ∷ bs) = line (tokens (line-itself true b)) (itself bs)

-- one line for another with the same tokens
pub one_line : (xs ys : List (List ℕ)) {b b' : List ℕ} → SameTokens b b' → SameLines (xs ++ (b ∷ ys)) (xs ++ (b' ∷ ys))
one_line [] ys h = line h (itself ys)
one_line (x ∷ xs) ys h = line (tokens (line-itself true x)) (one_line xs ys h)

module _ (M N : ℕ) {source source' : List ℕ} (n : length source ≤ longest_source) (n' : length source' ≤ longest_source) (xs ys : List (List ℕ)) where
  -- Adding a comment changes no image: at the end of a line of whole tokens, with blanks before it or not; nor do blanks there.
  pub comment-same : (b tail : List ℕ) {ts : List Token} → Lines source (xs ++ (b ∷ ys)) → Lines source' (xs ++ ((b ++ tail) ∷ ys)) → RowOf b ts
      → NoStray ts
      → Over tail
      → assemble_of M N source ≡ assemble_of M N source'
  comment-same b tail has has' r w o = spacing_same M N has has' (one_line xs ys (tokens (comment-added true tail r w o))) n n'

  -- Adding blanks changes no image: at the start of a line,
  pub blanks_first_same : (b bs : List ℕ) → Lines source (xs ++ (b ∷ ys)) → Lines source' (xs ++ ((bs ++ b) ∷ ys)) → AllBlank bs
      → assemble_of M N source ≡ assemble_of M N source'
  blanks_first_same b bs has has' t = spacing_same M N has has' (one_line xs ys (tokens (blanks-first true b bs t))) n n'

  -- where a blank stands already, after whole tokens,
  pub blanks_widened_same : (p bs s : List ℕ) (c : ℕ) {ps : List Token} → Lines source (xs ++ ((p ++ (c ∷ s)) ∷ ys))
      → Lines source' (xs ++ ((p ++ (c ∷ bs ++ s)) ∷ ys))
      → RowOf p ps
      → NoStray ps
      → T (is_blank c)
      → AllBlank bs
      → assemble_of M N source ≡ assemble_of M N source'
  blanks_widened_same p bs s c has has' r w t ts =
      spacing_same M N has has' (one_line xs ys (tokens (blanks_widened true c bs s r w t ts))) n n'

  -- and between tokens that follow directly, but not before a label's `:`, nor between `-` and a decimal number,
  pub blanks_between_same : (p bs s : List ℕ) {at : ℕ} {ps ss : List Token} → Lines source (xs ++ ((p ++ s) ∷ ys))
      → Lines source' (xs ++ ((p ++ (bs ++ s)) ∷ ys))
      → RowOf p ps
      → NoStray ps
      → T (apart p s)
      → Row at true s ss
      → Loose true (last_kind End ps) ss
      → AllBlank bs
      → assemble_of M N source ≡ assemble_of M N source'
  blanks_between_same p bs s has has' r w a q l t =
      spacing_same M N has has' (one_line xs ys (tokens (blanks-between true bs r w a q l t))) n n'

  -- which may be in an expression.
  pub blanks_in_expression_same : (p bs s : List ℕ) {at : ℕ} {ps ss : List Token} {x : Word} → Lines source (xs ++ ((p ++ s) ∷ ys))
      → Lines source' (xs ++ ((p ++ (bs ++ s)) ∷ ys))
      → HasWord (p ++ s) x
      → T (signless x)
      → RowOf p ps
      → NoStray ps
      → T (apart p s)
      → Row at true s ss
      → Loose false (last_kind End ps) ss
      → AllBlank bs
      → assemble_of M N source ≡ assemble_of M N source'
  blanks_in_expression_same p bs s has has' h x r w a q l t =
      spacing_same M N has has' (one_line xs ys (signless-tokens (blanks-between false bs r w a q l t) h x)) n n'

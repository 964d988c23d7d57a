-- What stands below END changes nothing: the assembler sees a source only through its length (2) and its lines up to END.
use Prim.Native.Nat.{ℕ}
use mathlib.Core.Bool.{Bool, true, cond}
use mathlib.Core.List.{List, [], ◌∷◌, ◌++◌, map}
use mathlib.Core.Path.{◌≡◌, refl, sym, ap, ap₂, ◌∙◌}
use lib.ListN.{length}
use Rattle.tokens.specs.Lines.{Lines}
use Rattle.tokens.specs.Reading.{lines_of}
use Rattle.tokens.proofs.Top.{source_lines, one_list}
use Rattle.names.specs.declared.Word.TheVariants as W
use Rattle.statements.specs.Statements.{HasWord}
use Rattle.statements.specs.Judging.{judged}
use Rattle.statements.specs.Reading.{line_read}
use Rattle.statements.specs.declared.LineRead.{LineRead}
use Rattle.statements.proofs.Top as statements
use Rattle.sources.specs.Placing.{start}
use Rattle.sources.specs.Inner.Assembling.{Verdict, passes, and_then, read_line, ends_it, up_to_end, loan_verdict, walk_lines, Work, start_work, work_after, late_verdict, verdict_of, memory_of, assembled_by, assemble_of}

-- the assembler by the lines up to END
module _ (M : ℕ) where
  abbrev work_by : List (List ℕ) → Work
  work_by ls = work_after 1 (start_work M) (map read_line ls)

  abbrev verdict_by : Verdict → List (List ℕ) → Verdict
  verdict_by loans ls = and_then loans (and_then (walk_lines M 1 (start M) ls) (late_verdict (work_by ls) (length ls)))

  pub by_lines : (N : ℕ) (source : List ℕ)
      → assemble_of M N source
      ≡ assembled_by (verdict_by (loan_verdict M N source) (up_to_end (lines_of source))) (memory_of (work_by (up_to_end (lines_of source))))
      (work_by (up_to_end (lines_of source))).place.marks
  unfolding assemble_of verdict_of
  by_lines N source = refl

  -- two sources with the same lines up to END, if neither is refused for its loans or its length
  pub same_lines : (N : ℕ) (source source' : List ℕ) → loan_verdict M N source ≡ passes → loan_verdict M N source' ≡ passes
      → up_to_end (lines_of source) ≡ up_to_end (lines_of source')
      → assemble_of M N source ≡ assemble_of M N source'
  same_lines N source source' h h' e =
      by_lines N source
      ∙ ap₂ (λ (v : Verdict) (ls : List (List ℕ)). assembled_by (verdict_by v ls) (memory_of (work_by ls)) (work_by ls).place.marks) (h ∙ sym h') e
      ∙ sym (by_lines N source')

-- a line whose statement's word is END ends the lines
pub word-ends : (e : List ℕ) → HasWord e W.End → ends_it (line_read e).statement ≡ true
unfolding judged
word-ends e w =
    let x = (statements.end-exactly e).1 w in
    ap (λ (r : LineRead). ends_it r.statement) (statements.read-judged e x.1)

cut-here : (ls : List (List ℕ)) (e : List ℕ) (rest rest' : List (List ℕ)) → ends_it (line_read e).statement ≡ true
    → up_to_end (ls ++ (e ∷ rest)) ≡ up_to_end (ls ++ (e ∷ rest'))
unfolding up_to_end
cut-here [] e rest rest' h =
    ap (λ (b : Bool). e ∷ cond b [] (up_to_end rest)) h ∙ sym (ap (λ (b : Bool). e ∷ cond b [] (up_to_end rest')) h)
cut-here (l ∷ ls) e rest rest' h =
    ap (λ (xs : List (List ℕ)). l ∷ cond (ends_it (line_read l).statement) [] xs) (cut-here ls e rest rest' h)

pub below_end : (M N : ℕ) (source source' : List ℕ) (above : List (List ℕ)) (e : List ℕ) (rest rest' : List (List ℕ))
    → Lines source (above ++ (e ∷ rest))
    → Lines source' (above ++ (e ∷ rest'))
    → HasWord e W.End
    → loan_verdict M N source ≡ passes
    → loan_verdict M N source' ≡ passes
    → assemble_of M N source ≡ assemble_of M N source'
below_end M N source source' above e rest rest' l l' w h h' =
    same_lines M N source source' h h'
    (ap up_to_end (one_list (source_lines source) l)
    ∙ cut-here above e rest rest' (word-ends e w)
    ∙ ap up_to_end (one_list l' (source_lines source')))

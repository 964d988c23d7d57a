-- Each limit at both its ends, by computing the test that decides it: "M from 1 to 65,536", "at most 32,768 bytes", "labels at most 512, a
-- label at most 64 bytes", "`$label` outside -32768..32767", "65,536 is 6", "past cell M-1".
use Prim.Native.Nat.{ℕ}
use mathlib.Core.Bool.{true, false}
use mathlib.Core.List.{List, [], ◌∷◌}
use mathlib.Core.Path.{◌≡◌, refl}
use lib.ListN.{replicate}
use Rattle.statements.specs.declared.Statement.TheVariants.{Res}
use Rattle.sources.specs.Placing.{Place, names, act, does}
use Rattle.sources.specs.Uses.{known, plainly, from, counted_word}
use Rattle.sources.specs.Order.{◌on◌}
use Rattle.sources.specs.Image.{cells_marked}
use Rattle.sources.specs.Inner.Assembling.{passes, refused, first_of, loan_verdict, among, name_verdict, taken, act_verdict, end_verdict, too_far}
use Rattle.sources.specs.declared.Gives.TheVariants.{Waits, Number, Start}
use Rattle.sources.specs.declared.Moves.TheVariants.{On}

abbrev a : List ℕ
a = 97 ∷ []

-- a place with so many labels bound, and so many waiting
abbrev labels : ℕ → ℕ → Place
labels n k = record { at = 0; bound = replicate n (record { name = a; value = 0 }); waiting = replicate k a; marks = [] }

-- a place at an address of a memory of two cells, the first of which is code
abbrev near : ℕ → List (List ℕ) → Place
near at waiting = record { at = at; bound = []; waiting = waiting; marks = 1 ∷ 0 ∷ [] }

pub record Edges : Type 0 where
  -- 1
  pub no_cell : loan_verdict 0 0 [] ≡ refused (1 on 0)
  pub one_cell : loan_verdict 1 1 [] ≡ passes
  pub most-cells : loan_verdict 65536 65536 [] ≡ passes
  pub a_cell_more : loan_verdict 65537 65537 [] ≡ refused (1 on 0)
  pub map-short : loan_verdict 2 1 [] ≡ refused (1 on 0)
  pub map-long : loan_verdict 1 2 [] ≡ refused (1 on 0)
  -- 2, after 1
  pub longest : loan_verdict 1 1 (replicate 32768 0) ≡ passes
  pub a_byte_more : loan_verdict 1 1 (replicate 32769 0) ≡ refused (2 on 0)
  pub map_before_length : loan_verdict 2 1 (replicate 32769 0) ≡ refused (1 on 0)
  -- 10, before 9
  pub label_64 : name_verdict 3 (labels 0 0) (replicate 64 97) ≡ passes
  pub label_65 : name_verdict 3 (labels 0 0) (replicate 65 97) ≡ refused (10 on 3)
  pub the_512th : name_verdict 3 (labels 0 511) (98 ∷ []) ≡ passes
  pub the_513th : name_verdict 3 (labels 0 512) (98 ∷ []) ≡ refused (10 on 3)
  pub the_512th_mixed : name_verdict 3 (labels 500 11) (98 ∷ []) ≡ passes
  pub the_513th_mixed : name_verdict 3 (labels 500 12) (98 ∷ []) ≡ refused (10 on 3)
  pub the_513th_again : name_verdict 3 (labels 0 512) a ≡ refused (10 on 3)
  pub again : name_verdict 3 (labels 0 1) a ≡ refused (9 on 3)
  pub again-bound : name_verdict 3 (labels 1 0) a ≡ refused (9 on 3)
  pub case_kept : name_verdict 3 (labels 1 1) (65 ∷ []) ≡ passes
  -- 6: a label that would get 65,536, or RES past it
  pub last-address : act_verdict 2 3 (near 65535 (a ∷ [])) (act Start (On 0) 0 0) ≡ passes
  pub no_address : act_verdict 2 3 (near 65536 (a ∷ [])) (act Start (On 0) 0 0) ≡ refused (6 on 3)
  pub none-waits : act_verdict 2 3 (near 65536 []) (act Start (On 0) 0 0) ≡ passes
  pub waits_on : act_verdict 2 3 (near 65536 (a ∷ [])) (act Waits (On 0) 0 0) ≡ passes
  pub a_number : act_verdict 2 3 (near 65536 (a ∷ [])) (act (Number 1) (On 0) 0 0) ≡ passes
  pub reserves_to_65536 : act_verdict 2 3 (near 1 []) (does (Res 65535)) ≡ refused (11 on 3)
  pub reserves_past : act_verdict 2 3 (near 2 []) (does (Res 65535)) ≡ refused (6 on 3)
  pub end_binds : end_verdict 4 (near 65535 (a ∷ [])) ≡ passes
  pub end-past : end_verdict 4 (near 65536 (a ∷ [])) ≡ refused (6 on 4)
  pub end_none : end_verdict 4 (near 65536 []) ≡ passes
  -- 11, 12
  pub last-cell : act_verdict 2 3 (near 1 []) (act Start (On 1) 1 2) ≡ passes
  pub past-last : act_verdict 2 3 (near 1 []) (act Start (On 2) 2 2) ≡ refused (11 on 3)
  pub claims-none : act_verdict 2 3 (near 7 []) (act Start (On 0) 0 0) ≡ passes
  pub taken-first : act_verdict 2 3 (near 0 []) (act Start (On 2) 2 2) ≡ refused (12 on 3)
  pub past_before_taken : act_verdict 2 3 (near 0 []) (act Start (On 3) 3 2) ≡ refused (11 on 3)
  -- the same of RES
  pub reserves_last : act_verdict 2 3 (near 1 []) (does (Res 1)) ≡ passes
  pub reserves_past_last : act_verdict 2 3 (near 1 []) (does (Res 2)) ≡ refused (11 on 3)
  pub reserves_none : act_verdict 2 3 (near 7 []) (does (Res 0)) ≡ passes
  pub reserves_taken : act_verdict 2 3 (near 0 []) (does (Res 1)) ≡ refused (12 on 3)
  pub reserves_none_of_taken : act_verdict 2 3 (near 0 []) (does (Res 0)) ≡ passes
  pub reserves_past_before_taken : act_verdict 2 3 (near 0 []) (does (Res 3)) ≡ refused (11 on 3)
  -- 14: -32768 and 32767 are in, one past each is not
  pub lowest : too_far (from 32768) (known 0) ≡ false
  pub too_low : too_far (from 32769) (known 0) ≡ true
  pub highest : too_far (from 2) (known 32769) ≡ false
  pub too_high : too_far (from 2) (known 32770) ≡ true
  pub plain-far : too_far plainly (known 65535) ≡ false
  -- the word of `$label`: "kept modulo 65536"
  pub forward : counted_word (from 2) (known 5) ≡ 3
  pub backward : counted_word (from 5) (known 2) ≡ 65533
  pub the_end : counted_word (from 65536) (known 32768) ≡ 32768
  pub as_it_is : counted_word plainly (known 40000) ≡ 40000
  -- the counts
  pub marked_1 : cells_marked 1 (0 ∷ 1 ∷ 2 ∷ 1 ∷ 3 ∷ 1 ∷ 3 ∷ []) ≡ 3
  pub marked_2 : cells_marked 2 (0 ∷ 1 ∷ 2 ∷ 1 ∷ 3 ∷ 1 ∷ 3 ∷ []) ≡ 1
  pub marked_3 : cells_marked 3 (0 ∷ 1 ∷ 2 ∷ 1 ∷ 3 ∷ 1 ∷ 3 ∷ []) ≡ 2

pub edges : Edges
unfolding does first_of loan_verdict names among name_verdict taken act_verdict end_verdict cells_marked
edges =
    record {
      no_cell = refl;
      one_cell = refl;
      most-cells = refl;
      a_cell_more = refl;
      map-short = refl;
      map-long = refl;
      longest = refl;
      a_byte_more = refl;
      map_before_length = refl;
      label_64 = refl;
      label_65 = refl;
      the_512th = refl;
      the_513th = refl;
      the_512th_mixed = refl;
      the_513th_mixed = refl;
      the_513th_again = refl;
      again = refl;
      again-bound = refl;
      case_kept = refl;
      last-address = refl;
      no_address = refl;
      none-waits = refl;
      waits_on = refl;
      a_number = refl;
      reserves_to_65536 = refl;
      reserves_past = refl;
      end_binds = refl;
      end-past = refl;
      end_none = refl;
      last-cell = refl;
      past-last = refl;
      claims-none = refl;
      taken-first = refl;
      past_before_taken = refl;
      reserves_last = refl;
      reserves_past_last = refl;
      reserves_none = refl;
      reserves_taken = refl;
      reserves_none_of_taken = refl;
      reserves_past_before_taken = refl;
      lowest = refl;
      too_low = refl;
      highest = refl;
      too_high = refl;
      plain-far = refl;
      forward = refl;
      backward = refl;
      the_end = refl;
      as_it_is = refl;
      marked_1 = refl;
      marked_2 = refl;
      marked_3 = refl;
    }

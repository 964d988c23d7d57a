-- Worked examples.
use Prim.Native.Nat.{ℕ}
use mathlib.Core.Path.{◌≡◌, refl}
use mathlib.Core.List.{List, [], ◌∷◌, ◌++◌}
use lib.ListN.{replicate}
use Rattle.numerals.specs.Bytes.{bytes}
use Rattle.numerals.specs.Writing.{decimal_before, decimal}
use Rattle.texts.specs.Lines.{text_of}
use Rattle.machine.specs.declared.Ran.{Ran}
use Rattle.record.specs.Recording.{Leaves, fitted, text_of_run, recorded}

-- examples/daily.ens on its input: HALT after 82 steps
abbrev daily : Ran
daily =
    record {
      registers = record { r = 65535 ∷ replicate 10 0 ++ (33 ∷ 0 ∷ 0 ∷ 0 ∷ 32 ∷ []); stop = 1; taken = 21; written = 12 };
      stop = 1;
      count = 82;
    }

abbrev text : List ℕ
text =
    bytes "stop=1\nsteps=82\nA=0\nR0=65535\nR1=0\nR2=0\nR3=0\nR4=0\nR5=0\nR6=0\nR7=0\nR8=0\nR9=0\n"
    ++ bytes "SR=33\nIX=0\nIY=0\nSP=0\nPC=32\ntaken=21\nwritten=12\n"

-- a run whose registers are all different: each number stands on the line of its own register
abbrev all_different : Ran
all_different =
    record {
      registers =
          record {
            r = 100 ∷ 101 ∷ 102 ∷ 103 ∷ 104 ∷ 105 ∷ 106 ∷ 107 ∷ 108 ∷ 109 ∷ 110 ∷ 11 ∷ 112 ∷ 113 ∷ 114 ∷ 115 ∷ [];
            stop = 5;
            taken = 3;
            written = 4;
          };
      stop = 5;
      count = 2;
    }

abbrev its-text : List ℕ
its-text =
    bytes "stop=5\nsteps=2\nA=110\nR0=100\nR1=101\nR2=102\nR3=103\nR4=104\nR5=105\nR6=106\nR7=107\nR8=108\nR9=109\n"
    ++ bytes "SR=11\nIX=112\nIY=113\nSP=114\nPC=115\ntaken=3\nwritten=4\n"

-- a run that took so many bytes and wrote none
abbrev taking : ℕ → Ran
taking n = record { registers = record { r = replicate 16 0; stop = 0; taken = n; written = 0 }; stop = 8; count = 0 }

-- .. and one that wrote so many
abbrev writing : ℕ → Ran
writing n = record { registers = record { r = replicate 16 0; stop = 0; taken = 0; written = n }; stop = 9; count = 0 }

abbrev left : ℕ → ℕ → List ℕ → Leaves
left refusal n room = record { refusal = refusal; text = n; room = room }

pub record Examples : Type 0 where
  pub daily-text : text_of_run daily ≡ text
  pub into_its_room : recorded daily (replicate 121 7) ≡ left 0 121 text
  -- the room behind the record is as it was
  pub into_a_larger_room : recorded daily (replicate 123 7) ≡ left 0 121 (text ++ (7 ∷ 7 ∷ []))
  pub one-short : recorded daily (replicate 120 7) ≡ left 2 0 (replicate 120 7)
  pub each-register : text_of_run all_different ≡ its-text
  -- 4,294,967,295 bytes are told, and no more; a room that is short comes after
  pub taken-far : recorded (taking 4294967295) (7 ∷ []) ≡ left 2 0 (7 ∷ [])
  pub taken_too_far : recorded (taking 4294967296) (7 ∷ []) ≡ left 1 0 (7 ∷ [])
  pub written-far : recorded (writing 4294967295) (7 ∷ []) ≡ left 2 0 (7 ∷ [])
  pub written_too_far : recorded (writing 4294967296) (7 ∷ []) ≡ left 1 0 (7 ∷ [])

pub examples : Examples
unfolding decimal_before decimal text_of fitted recorded
examples =
    record {
      daily-text = refl;
      into_its_room = refl;
      into_a_larger_room = refl;
      one-short = refl;
      each-register = refl;
      taken-far = refl;
      taken_too_far = refl;
      written-far = refl;
      written_too_far = refl;
    }

-- How much is lent, and how much is allowed (01, "What is lent", "Layout", "What a step does").
use Rattle.std.specs.Prelude.{ℕ}

-- "M from 1 to 65,536"; the address after the last cell of the largest memory
abbrev pub most_cells : ℕ
most_cells = 65536

-- "Source is at most 32,768 bytes"
abbrev pub longest_source : ℕ
longest_source = 32768

-- "labels at most 512"
abbrev pub most_labels : ℕ
most_labels = 512

-- "a label at most 64 bytes"
abbrev pub longest_label : ℕ
longest_label = 64

-- "parentheses at most 32 deep"
abbrev pub deepest : ℕ
deepest = 32

-- "bad loan (.. SR above 63, stop code above 6)"
abbrev pub largest_sr : ℕ
largest_sr = 63

abbrev pub largest_stop_code : ℕ
largest_stop_code = 6

-- "A run takes a budget of 0..1,000,000"
abbrev pub largest_budget : ℕ
largest_budget = 1000000

-- "A first word of 2,496 or more is 2"
abbrev pub first_words : ℕ
first_words = 2496

-- The stack's direction (01: "PUSH stores at SP, then SP falls; POP raises SP, then reads"; manual 5.2).
use Rattle.std.specs.Prelude.{ℕ, ◌+◌, ◌%◌}

-- the cell that a push stores to, and SP after it
unfoldable pub push_cell : ℕ → ℕ
push_cell sp = sp

unfoldable pub pushed_sp : ℕ → ℕ
pushed_sp sp = (sp + 65535) % 65536

-- the cell that a pop reads, and SP after it
unfoldable pub pop_cell : ℕ → ℕ
pop_cell sp = (sp + 1) % 65536

unfoldable pub popped_sp : ℕ → ℕ
popped_sp sp = (sp + 1) % 65536

-- A sink in memory with bounded room, some of whose writes fail.
use Rattle.std.specs.Prelude.{ℕ, ◌-◌, Bool, ◌||◌, ◌==◌, nat_le, cond, min, List, ◌++◌, length, take}
use Rattle.std.specs.List.{list_any}
use Rattle.mj_io.specs.Faults.{raised}

-- the bytes held, the room for bytes, the numbers of the writes that fail, the most bytes that one
-- write takes, how many writes there were, and how many of them failed
pub record Tray : Type 0 where
  pub held : List ℕ
  pub room : ℕ
  pub fails : List ℕ
  pub most : ℕ
  pub writes : ℕ
  pub count : ℕ

-- whether a number is listed
abbrev pub is_listed : ℕ → List ℕ → Bool
is_listed n numbers = list_any (λ k. k == n) numbers

-- whether the next write is a fault: its number, counted from 1, is listed, or no room is left
abbrev pub write_fails : Tray → Bool
write_fails t = is_listed (raised t.writes) t.fails || nat_le t.room (length t.held)

-- how many bytes of a piece the next write takes, where it is no fault
abbrev pub bytes_taken : Tray → ℕ → ℕ
bytes_taken t piece = min (min piece t.most) (t.room - length t.held)

-- after a write that is a fault
abbrev pub after_fault : Tray → Tray
after_fault t = record t { writes = raised t.writes; count = raised t.count }

-- after a write that took these bytes
abbrev pub after_taking : Tray → List ℕ → Tray
after_taking t bytes = record t { held = t.held ++ bytes; writes = raised t.writes }

-- after a write of a piece
abbrev pub after_write : Tray → List ℕ → Tray
after_write t piece =
    cond (write_fails t) (after_fault t) (after_taking t (take (bytes_taken t (length piece)) piece))

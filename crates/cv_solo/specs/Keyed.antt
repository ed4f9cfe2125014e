-- A print as the program keeps it: its path as a string, and its place.
use Rattle.std.specs.Prelude.{ℕ, List, String, string_bytes}
use Rattle.std.specs.declared.alloc.Global.{Global}

abbrev pub keyed : String Global × ℕ → List ℕ × ℕ
keyed p = (string_bytes p.0, p.1)

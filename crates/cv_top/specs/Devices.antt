-- The source and the sink of a call, before it and after it.
use Rattle.std.specs.Prelude.{◌≡◌, ℕ, ◌+◌, ◌≤◌, List}
use Rattle.std.specs.declared.option.Option.{Option}
use Rattle.std.specs.Io.KnownBytes.{Appends, Keeps, Consumes, IsAtEnd}
use Rattle.cv_io.specs.Faults.{Rose}
use Rattle.cv_io.specs.Whole.{AppendsFront, GaveSome}

-- a source before and after a call: the bytes to come, where it tells them, and its count of faults
pub record Reading : Type 0 where
  pub left : Option (List ℕ)
  pub rest : Option (List ℕ)
  pub before : ℕ
  pub now : ℕ

-- a sink before and after a call: the bytes written, where it tells them, and its count of faults
pub record Writing : Type 0 where
  pub old : Option (List ℕ)
  pub new : Option (List ℕ)
  pub before : ℕ
  pub now : ℕ

-- the source never failed
abbrev pub IsSteady : Reading → Type 0
IsSteady r = r.now ≡ r.before

-- nothing was read
abbrev pub IsUnread : Reading → Type 0
IsUnread r = Keeps r.left r.rest × IsSteady r

-- the source gave these bytes, then told its end, and never failed
pub record Gave (r : Reading) (bytes : List ℕ) : Type 0 where
  pub given : Consumes r.left r.rest bytes
  pub ended : IsAtEnd r.rest
  pub steady : IsSteady r

-- the source gave no more bytes than the limit
abbrev pub GaveAtMost : ℕ → Reading → Type 0
GaveAtMost limit r = GaveSome r.left r.rest (λ n. n ≤ limit)

-- the source gave one byte more than the limit
abbrev pub GaveOneMore : ℕ → Reading → Type 0
GaveOneMore limit r = GaveSome r.left r.rest (λ n. n ≡ limit + 1)

-- the sink took all of the text
pub record TookAll (w : Writing) (text : List ℕ) : Type 0 where
  pub written : Appends w.old w.new text
  pub steady : w.now ≡ w.before

-- the sink failed, and took a part of the text from its front, not the whole
pub record TookFront (w : Writing) (text : List ℕ) : Type 0 where
  pub written : AppendsFront w.old w.new text
  pub rose : Rose w.before w.now

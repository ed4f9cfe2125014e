-- The one text of a state and of a frame, and a frame's bytes on the wire.
use Rattle.std.specs.Prelude.{ℕ, List, ◌++◌, length}
use Rattle.std.specs.Int.{w32, to_be_bytes}
use Rattle.cv_token.specs.Spelling.{spelling}
use Rattle.cv_protocol.specs.Actors.{StateView}
use Rattle.cv_protocol.specs.declared.frame.Frame.{Frame}
use Rattle.cv_frame.specs.Trees.{state_tree, frame_tree}

abbrev pub state_spelling : StateView → List ℕ
state_spelling s = spelling (state_tree s)

abbrev pub frame_spelling : Frame → List ℕ
frame_spelling f = spelling (frame_tree f)

-- the most bytes that a frame's text has
abbrev pub most_bytes : ℕ
most_bytes = 1048576

-- a text behind its length, in four bytes, the high one first
abbrev pub framed : List ℕ → List ℕ
framed text = to_be_bytes w32 (length text) ++ text

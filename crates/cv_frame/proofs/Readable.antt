-- Streams of frames, said with and without how their texts are read.
use Rattle.std.proofs.Common.{ℕ, List, [], ◌∷◌}
use Rattle.cv_feed.specs.Streams.{HasNone, IsSilent, Reads, Takes}
use Rattle.cv_token.proofs.Round.{tree_of-spelling}
use Rattle.cv_protocol.specs.declared.frame.Frame.{Frame}
use Rattle.cv_frame.specs.Trees.{frame_tree}
use Rattle.cv_frame.specs.Wire.{IsFramed, IsReadable, Stands}
use Rattle.cv_frame.proofs.Held.{frame_held}

pub readable : (f : Frame) (bytes : List ℕ) → IsFramed f bytes → IsReadable f bytes
readable f bytes s = let held = frame_held f s.frame in record { framed = s; back = tree_of-spelling (frame_tree f) held.token held.shallow }

pub reads_framed : (fs : List Frame) (stream rest : List ℕ) → Reads IsReadable fs stream rest → Reads IsFramed fs stream rest
reads_framed [] stream rest r = r
reads_framed (f ∷ fs) stream rest r = (r.0, r.1, r.2.framed, r.3, reads_framed fs r.1 rest r.4)

pub takes_framed : (old new : List Frame) (stream rest : List ℕ) → Takes IsReadable old new stream rest → Takes IsFramed old new stream rest
takes_framed old new stream rest t = (t.0, t.1, reads_framed t.0 stream rest t.2)

pub none_framed : (bytes : List ℕ) → HasNone IsReadable bytes → HasNone IsFramed bytes
none_framed bytes none f front rest s e = none f front rest (readable f front s) e

pub silent_framed : (bytes : List ℕ) → IsSilent IsReadable Stands bytes → IsSilent IsFramed Stands bytes
silent_framed bytes s = (none_framed bytes s.0, s.1)

-- What every row sends: frames from its node, with the stamp of its entry.
use Rattle.std.specs.Prelude.{◌≡◌, ℕ, Contains}
use Rattle.cv_protocol.specs.declared.frame.Frame.{Frame}
use Rattle.cv_protocol.specs.NodeState.{NodeState}
use Rattle.cv_protocol.specs.Rows.{Did}

-- the frame is from a node of that number, with that stamp
pub record IsOwn (node stamp : ℕ) (f : Frame) : Type 0 where
  pub from : f.from ≡ node
  pub stamped : f.stamp ≡ stamp

-- each frame is, and the node's specification stays
pub record SendsOwn (s : NodeState) (stamp : ℕ) (d : Did) : Type 0 where
  pub spec : d.next.spec ≡ s.spec
  pub own : (f : Frame) → Contains d.sends f → IsOwn s.spec.no stamp f

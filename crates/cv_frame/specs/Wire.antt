-- Frames on a wire: each as its text behind the text's length; and what faults mean.
use Rattle.std.specs.Prelude.{◌≡◌, ℕ, pos, ◌<◌, ◌≤◌, ◌^◌, List, [], ◌∷◌, ◌++◌, length, codes, Some}
use Rattle.std.specs.Int.{w32, to_be_bytes}
use Rattle.cv_token.specs.declared.token.Token.{Token}
use Rattle.cv_token.specs.declared.token.Token.TheVariants as token
use Rattle.cv_token.specs.Reading.{tree_of}
use Rattle.cv_token.specs.Spelling.{spelling}
use Rattle.cv_protocol.specs.declared.frame.Frame.{Frame}
use Rattle.cv_frame.specs.declared.flaw.Flaw.{Flaw}
use Rattle.cv_frame.specs.declared.flaw.Flaw.TheVariants as flaw
use Rattle.cv_frame.specs.Texts.{frame_spelling, framed, most_bytes}
use Rattle.cv_frame.specs.Trees.{body_tree, frame_tree, member, number}
use Rattle.cv_frame.specs.Values.{IsFrame}

-- these bytes are the frame, whole
pub record IsFramed (f : Frame) (bytes : List ℕ) : Type 0 where
  pub frame : IsFrame f
  pub short : length (frame_spelling f) ≤ most_bytes
  pub is : bytes ≡ framed (frame_spelling f)

-- and its text is read as its tree
pub record IsReadable (f : Frame) (bytes : List ℕ) : Type 0 where
  pub framed : IsFramed f bytes
  pub back : tree_of (frame_spelling f) ≡ Some (frame_tree f)

-- the tree of a frame with this stamp in place of its own
abbrev pub stamped_tree : Frame → ℕ → Token
stamped_tree f stamp = token.Dict (
    member (codes "body") (body_tree f.body)
    ∷ member (codes "from") (number f.from)
    ∷ member (codes "stamp") (token.Int (pos stamp))
    ∷ member (codes "to") (number f.to)
    ∷ [])

-- the text of a frame
pub record IsText (text : List ℕ) : Type 0 where
  pub f : Frame
  pub frame : IsFrame f
  pub is : text ≡ frame_spelling f

-- the text of a frame but for its stamp, which is from 2^62 to 2^64 - 1
pub record IsFarText (text : List ℕ) : Type 0 where
  pub f : Frame
  pub stamp : ℕ
  pub frame : IsFrame f
  pub far : 2 ^ 62 ≤ stamp
  pub fits : stamp < 2 ^ 64
  pub is : text ≡ spelling (stamped_tree f stamp)

-- at the front stands a text of at most 1,048,576 bytes behind its length
pub record BeginsWith (text bytes : List ℕ) : Type 0 where
  pub rest : List ℕ
  pub short : length text ≤ most_bytes
  pub is : bytes ≡ framed text ++ rest

-- at the front stands the length of a longer one
pub record IsTooLong (bytes : List ℕ) : Type 0 where
  pub n : ℕ
  pub rest : List ℕ
  pub long : most_bytes < n
  pub fits : n < 2 ^ 32
  pub is : bytes ≡ to_be_bytes w32 n ++ rest

-- what it means that a fault is told of bytes, and where it has to be told
abbrev pub Stands : Flaw → List ℕ → Type 0
Stands flaw.FrameTooLong bytes = IsTooLong bytes
Stands flaw.StampTooFar bytes = (text : List ℕ) × BeginsWith text bytes × IsFarText text
Stands flaw.BadFrame bytes = (text : List ℕ) × BeginsWith text bytes × ¬ (IsText text) × ¬ (IsFarText text)

-- where a fault stands no frame begins, whatever follows
abbrev pub HasNoFrames : Type 0
HasNoFrames = (f : Flaw) (m : Frame) (bytes more front rest : List ℕ) → Stands f bytes → IsFramed m front → ¬ (bytes ++ more ≡ front ++ rest)

-- one fault stands at one place, however much of the stream has come
abbrev pub HasOneFault : Type 0
HasOneFault = (f g : Flaw) (bytes more : List ℕ) → Stands f bytes → Stands g (bytes ++ more) → f ≡ g

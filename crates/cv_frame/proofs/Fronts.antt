-- What stands at the front of bytes, by the length that they tell.
use Rattle.std.proofs.Common.{◌≡◌, ℕ, ◌+◌, ◌≤◌, List, ◌++◌, length, take, drop, refl, sym, ap, ◌∙◌, subst, arith, append_assoc}
use Rattle.std.specs.Int.{w32, to_be_bytes}
use Rattle.std.proofs.Math.Seq.{take-append-add}
use Rattle.std.proofs.lemmas.List.{length-append, length-take-le, take-append-drop}
use Rattle.cv_token.proofs.Round.{tree_of-spelling}
use Rattle.cv_protocol.specs.declared.frame.Frame.{Frame}
use Rattle.cv_frame.specs.Texts.{frame_spelling, framed, most_bytes}
use Rattle.cv_frame.specs.Trees.{frame_tree}
use Rattle.cv_frame.specs.Values.{IsFrame}
use Rattle.cv_frame.specs.Wire.{BeginsWith, IsReadable}
use Rattle.cv_frame.proofs.Held.{frame_held}

-- the text of that length stands at the front
pub begins_at : (bytes rest : List ℕ) (len : ℕ) → bytes ≡ to_be_bytes w32 len ++ rest → len ≤ length rest → len ≤ most_bytes → BeginsWith (take len rest) bytes
begins_at bytes rest len e within short =
    let long : length (take len rest) ≡ len = length-take-le len rest within in
    record {
      rest = drop len rest;
      short = omega (arith, long);
      is = e ∙ ap (λ (l : List ℕ). to_be_bytes w32 len ++ l) (sym (take-append-drop len rest)) ∙ sym (append_assoc (to_be_bytes w32 len) (take len rest) (drop len rest)) ∙ ap (λ (n : ℕ). (to_be_bytes w32 n ++ take len rest) ++ drop len rest) (sym long);
    }

-- the front of four bytes more is the text behind its length
pub framed_at : (bytes rest : List ℕ) (len : ℕ) → bytes ≡ to_be_bytes w32 len ++ rest → len ≤ length rest → take (4 + len) bytes ≡ framed (take len rest)
framed_at bytes rest len e within =
    ap (take (4 + len)) e ∙ take-append-add (to_be_bytes w32 len) rest len ∙ ap (λ (n : ℕ). to_be_bytes w32 n ++ take len rest) (sym (length-take-le len rest within))

pub front_within : (bytes rest : List ℕ) (len : ℕ) → bytes ≡ to_be_bytes w32 len ++ rest → len ≤ length rest → 4 + len ≤ length bytes
front_within bytes rest len e within =
    let four : length (to_be_bytes w32 len) ≡ 4 = refl in
    omega (arith, ap length e, length-append (to_be_bytes w32 len) rest, four)

-- and where it is a frame's the frame stands there
pub read_at : (bytes rest : List ℕ) (len : ℕ) (f : Frame) → bytes ≡ to_be_bytes w32 len ++ rest → len ≤ length rest → len ≤ most_bytes → IsFrame f → take len rest ≡ frame_spelling f → IsReadable f (take (4 + len) bytes)
read_at bytes rest len f e within short k is =
    let held = frame_held f k in
    record {
      framed = record {
        frame = k;
        short = subst (λ (l : List ℕ). length l ≤ most_bytes) is (omega (arith, length-take-le len rest within));
        is = framed_at bytes rest len e within ∙ ap framed is;
      };
      back = tree_of-spelling (frame_tree f) held.token held.shallow;
    }

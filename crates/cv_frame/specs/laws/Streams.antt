-- A frame is told by its first bytes, and none begins where a fault stands, whatever follows.
use Rattle.std.proofs.Common.{◌≡◌, ℕ, ◌<◌, ◌≤◌, ◌^◌, List, ◌++◌, length, take, drop, Some, refl, sym, ap, ◌∙◌, subst, arith, append_assoc, length-append}
use Rattle.std.specs.Int.{w32, from_be_bytes, to_be_bytes}
use Rattle.std.proofs.lemmas.List.{take_at, drop_at}
use Rattle.std.proofs.lemmas.Nat.{from_be_bytes-to_be_bytes_4}
use Rattle.cv_token.specs.Reading.{tree_of}
use Rattle.cv_protocol.specs.declared.frame.Frame.{Frame}
use Rattle.cv_frame.specs.declared.flaw.Flaw.{Flaw}
use Rattle.cv_frame.specs.declared.flaw.Flaw.TheVariants as flaw
use Rattle.cv_frame.specs.Texts.{frame_spelling, framed, most_bytes}
use Rattle.cv_frame.specs.Trees.{frame_tree}
use Rattle.cv_frame.specs.Wire.{BeginsWith, IsFarText, IsFramed, IsReadable, IsTooLong, Stands}
use Rattle.cv_frame.specs.laws.OneFrame.{one_frame}
use Rattle.cv_frame.specs.laws.Far.{far_is_no_text}

length_four : (n : ℕ) → length (to_be_bytes w32 n) ≡ 4
length_four n = refl

-- lengths before two equal streams are one
pub one_length : (n k : ℕ) (x y : List ℕ) → n < 2 ^ 32 → k < 2 ^ 32 → to_be_bytes w32 n ++ x ≡ to_be_bytes w32 k ++ y → (n ≡ k) × (x ≡ y)
one_length n k x y low high e = (
  sym (from_be_bytes-to_be_bytes_4 n low) ∙ ap (from_be_bytes w32) (sym (take_at (to_be_bytes w32 n) x 4 (length_four n)) ∙ ap (take 4) e ∙ take_at (to_be_bytes w32 k) y 4 (length_four k)) ∙ from_be_bytes-to_be_bytes_4 k high,
  sym (drop_at (to_be_bytes w32 n) x 4 (length_four n)) ∙ ap (drop 4) e ∙ drop_at (to_be_bytes w32 k) y 4 (length_four k),
)

-- texts behind their lengths before two equal streams are one
pub one_text : (s r x y : List ℕ) → length s ≤ most_bytes → length r ≤ most_bytes → framed s ++ x ≡ framed r ++ y → (s ≡ r) × (x ≡ y)
one_text s r x y low high e =
    let both = one_length (length s) (length r) (s ++ x) (r ++ y) (omega arith) (omega arith) (sym (append_assoc (to_be_bytes w32 (length s)) s x) ∙ e ∙ append_assoc (to_be_bytes w32 (length r)) r y) in (
      sym (take_at s x (length s) refl) ∙ ap (take (length s)) both.1 ∙ take_at r y (length s) (sym both.0),
      sym (drop_at s x (length s) refl) ∙ ap (drop (length s)) both.1 ∙ drop_at r y (length s) (sym both.0),
    )

pub one : (m n : Frame) (a b x y : List ℕ) → IsReadable m a → IsReadable n b → a ++ x ≡ b ++ y → (m ≡ n) × (x ≡ y)
one m n a b x y s t e =
    let both = one_text (frame_spelling m) (frame_spelling n) x y s.framed.short t.framed.short (ap (λ (l : List ℕ). l ++ x) (sym s.framed.is) ∙ e ∙ ap (λ (l : List ℕ). l ++ y) t.framed.is) in
    let trees : Some (frame_tree m) ≡ Some (frame_tree n) = sym s.back ∙ ap tree_of both.0 ∙ t.back in
    let tree : frame_tree m ≡ frame_tree n = cc in
    (one_frame m n s.framed.frame t.framed.frame tree, both.1)

pub some : (m : Frame) (bytes : List ℕ) → IsReadable m bytes → 0 < length bytes
some m bytes s = omega (arith, ap length s.framed.is, length-append (to_be_bytes w32 (length (frame_spelling m))) (frame_spelling m), length_four (length (frame_spelling m)))

-- the text before what follows is the frame's
behind : (text bytes more front rest : List ℕ) (m : Frame) → BeginsWith text bytes → IsFramed m front → bytes ++ more ≡ front ++ rest → text ≡ frame_spelling m
behind text bytes more front rest m b s e =
    (one_text text (frame_spelling m) (b.rest ++ more) rest b.short s.short
    (sym (append_assoc (framed text) b.rest more) ∙ ap (λ (l : List ℕ). l ++ more) (sym b.is) ∙ e ∙ ap (λ (l : List ℕ). l ++ rest) s.is)).0

pub stuck : (f : Flaw) (m : Frame) (bytes more front rest : List ℕ) → Stands f bytes → IsReadable m front → ¬ (bytes ++ more ≡ front ++ rest)
stuck flaw.FrameTooLong m bytes more front rest t r e =
    let s = r.framed in
    let same = one_length t.n (length (frame_spelling m)) (t.rest ++ more) (frame_spelling m ++ rest) t.fits (omega (arith, s.short))
    (sym (append_assoc (to_be_bytes w32 t.n) t.rest more) ∙ ap (λ (l : List ℕ). l ++ more) (sym t.is) ∙ e ∙ ap (λ (l : List ℕ). l ++ rest) s.is ∙ append_assoc (to_be_bytes w32 (length (frame_spelling m))) (frame_spelling m) rest) in
    absurd (omega (arith, same.0, t.long, s.short))
stuck flaw.StampTooFar m bytes more front rest t r e =
    far_is_no_text t.0 t.2 (record { f = m; frame = r.framed.frame; is = behind t.0 bytes more front rest m t.1 r.framed e })
stuck flaw.BadFrame m bytes more front rest t r e =
    t.2 (record { f = m; frame = r.framed.frame; is = behind t.0 bytes more front rest m t.1 r.framed e })

-- one fault at one place
same_text : (text other bytes more : List ℕ) → BeginsWith text bytes → BeginsWith other (bytes ++ more) → text ≡ other
same_text text other bytes more b c =
    (one_text text other (b.rest ++ more) c.rest b.short c.short (sym (append_assoc (framed text) b.rest more) ∙ ap (λ (l : List ℕ). l ++ more) (sym b.is) ∙ c.is)).0

too_long : (text bytes : List ℕ) → IsTooLong bytes → BeginsWith text bytes → ⊥
too_long text bytes t b =
    let same = one_length t.n (length text) t.rest (text ++ b.rest) t.fits (omega (arith, b.short)) (sym t.is ∙ b.is ∙ append_assoc (to_be_bytes w32 (length text)) text b.rest) in
    absurd (omega (arith, same.0, t.long, b.short))

still_too_long : (bytes more : List ℕ) → IsTooLong bytes → IsTooLong (bytes ++ more)
still_too_long bytes more t = record { n = t.n; rest = t.rest ++ more; long = t.long; fits = t.fits; is = ap (λ (l : List ℕ). l ++ more) t.is ∙ append_assoc (to_be_bytes w32 t.n) t.rest more }

still_begins : (text bytes more : List ℕ) → BeginsWith text bytes → BeginsWith text (bytes ++ more)
still_begins text bytes more b = record { rest = b.rest ++ more; short = b.short; is = ap (λ (l : List ℕ). l ++ more) b.is ∙ append_assoc (framed text) b.rest more }

pub one_fault : (f g : Flaw) (bytes more : List ℕ) → Stands f bytes → Stands g (bytes ++ more) → f ≡ g
one_fault flaw.FrameTooLong flaw.FrameTooLong bytes more s t = refl
one_fault flaw.StampTooFar flaw.StampTooFar bytes more s t = refl
one_fault flaw.BadFrame flaw.BadFrame bytes more s t = refl
one_fault flaw.FrameTooLong flaw.StampTooFar bytes more s t = absurd (too_long t.0 (bytes ++ more) (still_too_long bytes more s) t.1)
one_fault flaw.FrameTooLong flaw.BadFrame bytes more s t = absurd (too_long t.0 (bytes ++ more) (still_too_long bytes more s) t.1)
one_fault flaw.StampTooFar flaw.FrameTooLong bytes more s t = absurd (too_long s.0 (bytes ++ more) t (still_begins s.0 bytes more s.1))
one_fault flaw.BadFrame flaw.FrameTooLong bytes more s t = absurd (too_long s.0 (bytes ++ more) t (still_begins s.0 bytes more s.1))
one_fault flaw.StampTooFar flaw.BadFrame bytes more s t = absurd (t.3 (subst IsFarText (same_text s.0 t.0 bytes more s.1 t.1) s.2))
one_fault flaw.BadFrame flaw.StampTooFar bytes more s t = absurd (s.3 (subst IsFarText (sym (same_text s.0 t.0 bytes more s.1 t.1)) t.2))

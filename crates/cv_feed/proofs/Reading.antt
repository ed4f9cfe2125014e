-- Readings of streams: how they are joined, and that there is one.
use Rattle.std.proofs.Common.{◌≡◌, ℕ, ◌+◌, ◌<◌, length, List, [], ◌∷◌, ◌++◌, take, drop, refl, sym, ap, ◌∙◌, subst, arith, append_assoc, append-nil, length-append}
use Rattle.std.proofs.lemmas.List.{take-append-drop, drop-drop}
use Rattle.cv_feed.specs.Streams.{HasNone, IsSilent, Waits, Reads, Takes, HasOneReading, ReadsByPieces}

pub Reads-append : {M : Type 0} (Spells : M → List ℕ → Type 0) → ReadsByPieces Spells
Reads-append Spells [] ns a b r q x y = subst (λ (t : List ℕ). Reads Spells ns (t ++ b) q) (sym x) y
Reads-append Spells (m ∷ ms) ns a b r q x y = (
  x.0,
  x.1 ++ b,
  x.2,
  ap (λ (t : List ℕ). t ++ b) x.3 ∙ append_assoc x.0 x.1 b,
  Reads-append Spells ms ns x.1 b r q x.4 y,
)

-- one more message
pub Reads-push : {M : Type 0} (Spells : M → List ℕ → Type 0) (ms : List M) (m : M) (stream front after : List ℕ)
    → Reads Spells ms stream (front ++ after) → Spells m front → Reads Spells (ms ++ m ∷ []) stream after
Reads-push Spells [] m stream front after x s = (front, after, s, x, refl)
Reads-push Spells (n ∷ ms) m stream front after x s =
    (x.0, x.1, x.2, x.3, Reads-push Spells ms m x.1 front after x.4 s)

pub takes_more : {M : Type 0} (Spells : M → List ℕ → Type 0) (old now : List M) (m : M) (stream : List ℕ) (at n : ℕ)
    → Takes Spells old now stream (drop at stream) → Spells m (take n (drop at stream))
    → Takes Spells old (now ++ m ∷ []) stream (drop (at + n) stream)
takes_more Spells old now m stream at n t s =
    let seam = sym (take-append-drop n (drop at stream)) ∙ ap (λ (q : List ℕ). take n (drop at stream) ++ q) (drop-drop n at stream) in (
      t.0 ++ m ∷ [],
      ap (λ l. l ++ m ∷ []) t.1 ∙ append_assoc old t.0 (m ∷ []),
      Reads-push Spells t.0 m stream (take n (drop at stream)) (drop (at + n) stream)
          (subst (λ (q : List ℕ). Reads Spells t.0 stream q) seam t.2) s,
    )

pub takes_none : {M : Type 0} (Spells : M → List ℕ → Type 0) (old : List M) (stream : List ℕ)
    → Takes Spells old old stream stream
takes_none Spells old stream = ([], sym (append-nil old), refl)

pub Reads-unique : {M : Type 0} (Spells : M → List ℕ → Type 0)
    → ((m n : M) (a b x y : List ℕ) → Spells m a → Spells n b → a ++ x ≡ b ++ y → (m ≡ n) × (x ≡ y))
    → HasOneReading Spells
Reads-unique Spells one [] [] stream r q x y hr hq = (refl, sym x ∙ y)
Reads-unique Spells one [] (n ∷ ns) stream r q x y hr hq = absurd (hr n y.0 y.1 y.2 (sym x ∙ y.3))
Reads-unique Spells one (m ∷ ms) [] stream r q x y hr hq = absurd (hq m x.0 x.1 x.2 (sym y ∙ x.3))
Reads-unique Spells one (m ∷ ms) (n ∷ ns) stream r q x y hr hq =
    let first = one m n x.0 y.0 x.1 y.1 x.2 y.2 (sym x.3 ∙ y.3) in
    let others = Reads-unique Spells one ms ns x.1 r q x.4
    (subst (λ (t : List ℕ). Reads Spells ns t q) (sym first.1) y.4) hr hq in
    (λ i. first.0 i ∷ others.0 i, others.1)

-- no message begins where a fault stands
pub none_where_stuck : {M F : Type 0} (Spells : M → List ℕ → Type 0) (Stands : F → List ℕ → Type 0)
    → ((f : F) (m : M) (bytes more front rest : List ℕ) → Stands f bytes → Spells m front → ¬ (bytes ++ more ≡ front ++ rest))
    → (f : F) (bytes : List ℕ) → Stands f bytes → HasNone Spells bytes
none_where_stuck Spells Stands stuck f bytes stands m front rest s e =
    stuck f m bytes [] front rest stands s (append-nil bytes ∙ e)

-- what waits is silent as it is
pub silent_now : {M F : Type 0} (Spells : M → List ℕ → Type 0) (Due : F → List ℕ → Type 0) (need : ℕ) (bytes : List ℕ)
    → Waits Spells Due need bytes → length bytes < need → IsSilent Spells Due bytes
silent_now Spells Due need bytes waits short =
    subst (λ (b : List ℕ). IsSilent Spells Due b) (append-nil bytes)
    (waits [] (subst (λ (b : List ℕ). length b < need) (sym (append-nil bytes)) short))

-- what is silent waits for one byte more
pub waits_next : {M F : Type 0} (Spells : M → List ℕ → Type 0) (Due : F → List ℕ → Type 0) (bytes : List ℕ)
    → IsSilent Spells Due bytes → Waits Spells Due (length bytes + 1) bytes
waits_next Spells Due bytes silent [] short =
    subst (λ (b : List ℕ). IsSilent Spells Due b) (sym (append-nil bytes)) silent
waits_next Spells Due bytes silent (b ∷ more) short = absurd (omega (arith, short, length-append bytes (b ∷ more)))

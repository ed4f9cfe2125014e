-- Streams of bytes as messages behind each other. `Spells m bytes` says that these bytes are the message m, whole;
-- `Due f bytes` says that at these bytes a fault has to be told.
use Rattle.std.specs.Prelude.{◌≡◌, ℕ, ◌+◌, ◌-◌, ◌<◌, min, List, [], ◌∷◌, ◌++◌, length}

-- no message stands whole at the front
abbrev pub HasNone : {M : Type 0} → (M → List ℕ → Type 0) → List ℕ → Type 0
HasNone {M} Spells bytes = (m : M) (front rest : List ℕ) → Spells m front → ¬ (bytes ≡ front ++ rest)

-- neither a message nor a fault has to be answered
abbrev pub IsSilent : {M F : Type 0} → (M → List ℕ → Type 0) → (F → List ℕ → Type 0) → List ℕ → Type 0
IsSilent {M} {F} Spells Due bytes = HasNone Spells bytes × ((f : F) → ¬ (Due f bytes))

-- and so it stays while there are fewer than need bytes, whichever follow
abbrev pub Waits : {M F : Type 0} → (M → List ℕ → Type 0) → (F → List ℕ → Type 0) → ℕ → List ℕ → Type 0
Waits Spells Due need bytes =
    (more : List ℕ) → length (bytes ++ more) < need → IsSilent Spells Due (bytes ++ more)

-- the stream is these messages, each as its bytes, and then the rest
abbrev pub Reads : {M : Type 0} → (M → List ℕ → Type 0) → List M → List ℕ → List ℕ → Type 0
Reads Spells [] stream rest = stream ≡ rest
Reads Spells (m ∷ ms) stream rest =
    (bytes : List ℕ) × (after : List ℕ) × Spells m bytes × (stream ≡ bytes ++ after) × Reads Spells ms after rest

-- the messages of the stream up to the rest were added to the list
abbrev pub Takes : {M : Type 0} → (M → List ℕ → Type 0) → List M → List M → List ℕ → List ℕ → Type 0
Takes {M} Spells old new stream rest = (ms : List M) × (new ≡ old ++ ms) × Reads Spells ms stream rest

-- the number of bytes before a rest, counted up to 2^64 - 1, once a stream of so many bytes is read up to it
abbrev pub place_after : ℕ → List ℕ → List ℕ → ℕ
place_after begun stream rest = min (begun + (length stream - length rest)) 18446744073709551615

-- readings of one stream that end where no message stands whole have the same messages and the same rest
abbrev pub HasOneReading : {M : Type 0} → (M → List ℕ → Type 0) → Type 0
HasOneReading {M} Spells =
    (ms ns : List M) (stream r q : List ℕ) → Reads Spells ms stream r → Reads Spells ns stream q
    → HasNone Spells r → HasNone Spells q → (ms ≡ ns) × (r ≡ q)

-- a stream in two pieces is read piece by piece: what the first left goes before the second
abbrev pub ReadsByPieces : {M : Type 0} → (M → List ℕ → Type 0) → Type 0
ReadsByPieces {M} Spells =
    (ms ns : List M) (first second r q : List ℕ) → Reads Spells ms first r → Reads Spells ns (r ++ second) q
    → Reads Spells (ms ++ ns) (first ++ second) q

-- An actor alone: what it makes of the streams of its inports, by a list of its own firings.
use Rattle.std.proofs.Common.{◌≡◌, ℕ, ◌+◌, Bool, true, false, List, [], ◌∷◌, ◌++◌, ◌⊎◌, inl, inr, refl, ap, sym, ◌∙◌, subst}
use Rattle.cv_token.specs.declared.token.Token.{Token}
use Rattle.cv_behave.specs.declared.behave.Effect.{Effect}
use Rattle.cv_behave.specs.KindRow.{Deterministic, effect_of, given_at, heads_of, is_ready, needed}
use Rattle.cv_kinds.specs.declared.network.ActorSpec.{ActorSpec}
use Rattle.cv_kinds.specs.KindRow.{row_of}
use Rattle.cv_kinds.proofs.Promises.{stays}
use Rattle.cv_kahn.specs.Streams.{Prefix}
use Rattle.cv_kahn.proofs.Rows.{Longer, grown, length_offers, nothing_more, offers, prefix_trans, ready_counts, same_heads}

-- its slots, how many tokens it took from each inport, and what it gave to each outport
pub record Local : Type 0 where
  pub slots : List Token
  pub took : ℕ → ℕ
  pub gave : ℕ → List Token

abbrev pub offered : ActorSpec → (ℕ → List Token) → Local → List (List Token)
offered spec written x = offers written x.took 0 (row_of spec.kind).inports

abbrev pub can : ActorSpec → (ℕ → List Token) → Local → ℕ → Bool
can spec written x k = is_ready (row_of spec.kind) spec.args x.slots k (offered spec written x)

abbrev pub does : ActorSpec → (ℕ → List Token) → Local → ℕ → Effect
does spec written x k = effect_of (row_of spec.kind) spec.args x.slots k (heads_of (row_of spec.kind) spec.args k 0 (offered spec written x))

abbrev pub becomes : ActorSpec → Local → ℕ → Effect → Local
becomes spec x k done = record {
  slots = done.state;
  took = λ port. x.took port + needed (row_of spec.kind) spec.args k port;
  gave = λ port. x.gave port ++ given_at done.out port;
}

-- after one firing of an action
abbrev pub next : ActorSpec → (ℕ → List Token) → Local → ℕ → Local
next spec written x k = becomes spec x k (does spec written x k)

-- these firings lead from x to y
abbrev pub Does : ActorSpec → (ℕ → List Token) → Local → List ℕ → Local → Type 0
Does spec written x [] y = x ≡ y
Does spec written x (k ∷ ks) y = (can spec written x k ≡ true) × Does spec written (next spec written x k) ks y

-- some firings of its own lead from x to y
abbrev pub Behind : ActorSpec → (ℕ → List Token) → Local → Local → Type 0
Behind spec written x y = (ks : List ℕ) × Does spec written x ks y

-- over longer streams the same action can fire, and does the very same
pub can_more : (spec : ActorSpec) (written more : ℕ → List Token) (x : Local) (k : ℕ) → Longer written more → can spec written x k ≡ true → can spec more x k ≡ true
can_more spec written more x k longer ready =
    let count = (row_of spec.kind).inports in
    stays spec.kind spec.args x.slots (offered spec written x) (offered spec more x) k (length_offers written x.took 0 count) (grown written more x.took 0 count longer) ready

pub next_more : (spec : ActorSpec) (written more : ℕ → List Token) (x : Local) (k : ℕ) → Longer written more → can spec written x k ≡ true → next spec more x k ≡ next spec written x k
next_more spec written more x k longer ready =
    let row = row_of spec.kind in
    let counts = ready_counts row spec.args x.slots k (offered spec written x) ready in
    ap (λ (heads : List Token). becomes spec x k (effect_of (row_of spec.kind) spec.args x.slots k heads))
    (same_heads row spec.args k 0 (offered spec written x) (offered spec more x) (grown written more x.took 0 row.inports longer) counts)

does_more : (spec : ActorSpec) (written more : ℕ → List Token) (x : Local) (ks : List ℕ) (y : Local) → Longer written more → Does spec written x ks y → Does spec more x ks y
does_more spec written more x [] y longer d = d
does_more spec written more x (k ∷ ks) y longer d =
    (can_more spec written more x k longer d.0, subst (λ (z : Local). Does spec more z ks y) (sym (next_more spec written more x k longer d.0)) (does_more spec written more (next spec written x k) ks y longer d.1))

pub behind_more : (spec : ActorSpec) (written more : ℕ → List Token) (x y : Local) → Longer written more → Behind spec written x y → Behind spec more x y
behind_more spec written more x y longer b = (b.0, does_more spec written more x b.0 y longer b.1)

does_end : (spec : ActorSpec) (written : ℕ → List Token) (x : Local) (ks : List ℕ) (y : Local) (k : ℕ) → Does spec written x ks y → can spec written y k ≡ true → Does spec written x (ks ++ k ∷ []) (next spec written y k)
does_end spec written x [] y k is ready = (subst (λ (z : Local). can spec written z k ≡ true) (sym is) ready, ap (λ (z : Local). next spec written z k) is)
does_end spec written x (j ∷ ks) y k d ready = (d.0, does_end spec written (next spec written x j) ks y k d.1 ready)

-- the one ahead fires, and the streams grow
pub behind_end : (spec : ActorSpec) (written more : ℕ → List Token) (x y : Local) (k : ℕ) → Longer written more → Behind spec written x y → can spec written y k ≡ true → Behind spec more x (next spec written y k)
behind_end spec written more x y k longer b ready = behind_more spec written more x (next spec written y k) longer (b.0 ++ k ∷ [], does_end spec written x b.0 y k b.1 ready)

-- a deterministic actor that can fire an action can fire no other one over longer streams
pub one_action : (spec : ActorSpec) (written more : ℕ → List Token) (x : Local) (k j : ℕ) → Deterministic (row_of spec.kind) → Longer written more → can spec written x k ≡ true → can spec more x j ≡ true → k ≡ j
one_action spec written more x k j alone longer ready other =
    alone spec.args x.slots (offered spec more x) k j (length_offers more x.took 0 (row_of spec.kind).inports) (can_more spec written more x k longer ready) other

does_first : (spec : ActorSpec) (written more : ℕ → List Token) (x : Local) (ks : List ℕ) (y : Local) (k : ℕ) → Deterministic (row_of spec.kind) → Longer written more → Does spec more x ks y → can spec written x k ≡ true → (x ≡ y) ⊎ Behind spec more (next spec written x k) y
does_first spec written more x [] y k alone longer d ready = inl d
does_first spec written more x (j ∷ ks) y k alone longer d ready =
    let same : k ≡ j = one_action spec written more x k j alone longer ready d.0 in
    let there : next spec more x j ≡ next spec written x k = ap (λ (i : ℕ). next spec more x i) (sym same) ∙ next_more spec written more x k longer ready in
    inr (ks, subst (λ (z : Local). Does spec more z ks y) there d.1)

-- the one behind fires over its own streams, which are shorter: both were level, or it is still behind
pub behind_first : (spec : ActorSpec) (written more : ℕ → List Token) (x y : Local) (k : ℕ) → Deterministic (row_of spec.kind) → Longer written more → Behind spec more x y → can spec written x k ≡ true → (x ≡ y) ⊎ Behind spec more (next spec written x k) y
behind_first spec written more x y k alone longer b ready = does_first spec written more x b.0 y k alone longer b.1 ready

does_give : (spec : ActorSpec) (written : ℕ → List Token) (x : Local) (ks : List ℕ) (y : Local) (port : ℕ) → Does spec written x ks y → Prefix (x.gave port) (y.gave port)
does_give spec written x [] y port is = subst (λ (z : Local). Prefix (x.gave port) (z.gave port)) is (nothing_more (x.gave port))
does_give spec written x (k ∷ ks) y port d =
    prefix_trans (x.gave port) ((next spec written x k).gave port) (y.gave port) (given_at (does spec written x k).out port, refl) (does_give spec written (next spec written x k) ks y port d.1)

-- what the one behind gave is a prefix of what the one ahead gave
pub behind_gives : (spec : ActorSpec) (written : ℕ → List Token) (x y : Local) (port : ℕ) → Behind spec written x y → Prefix (x.gave port) (y.gave port)
behind_gives spec written x y port b = does_give spec written x b.0 y port b.1

does_nothing : (spec : ActorSpec) (written : ℕ → List Token) (x : Local) (ks : List ℕ) (y : Local) → ((k : ℕ) → can spec written x k ≡ false) → Does spec written x ks y → x ≡ y
does_nothing spec written x [] y still d = d
does_nothing spec written x (k ∷ ks) y still d = let bad : true ≡ false = sym d.0 ∙ still k in cc

-- one that can't fire and is behind is level
pub behind_still : (spec : ActorSpec) (written : ℕ → List Token) (x y : Local) → ((k : ℕ) → can spec written x k ≡ false) → Behind spec written x y → x ≡ y
behind_still spec written x y still b = does_nothing spec written x b.0 y still b.1

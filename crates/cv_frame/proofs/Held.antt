-- The trees of what travels are trees that JSON can hold.
use Rattle.std.proofs.Common.{◌≡◌, ℕ, zero, suc, ◌≤◌, ◌^◌, min, Bool, true, ◌&&◌, List, [], ◌∷◌, map, Option, Some, None, nat_lt, codes, refl, sym, ap, subst, ◌∙◌, arith, rules, lt-ltb, ltb-true}
use Rattle.std.proofs.lemmas.Bool.{and_parts}
use Rattle.std.proofs.lemmas.Str.{IsUtf8-from_ascii, is_utf8-from_IsUtf8}
use Rattle.std.specs.List.{All}
use Rattle.std.specs.Str.{IsAscii, is_utf8}
use Rattle.cv_token.specs.declared.identifiers.ActorId.{ActorId}
use Rattle.cv_token.specs.declared.identifiers.AppId.{AppId}
use Rattle.cv_token.specs.declared.identifiers.ConnId.{ConnId}
use Rattle.cv_token.specs.declared.pairs.Pair.{Pair}
use Rattle.cv_token.specs.declared.token.Token.{Token, the_lemmas}
use Rattle.cv_token.specs.declared.token.Token.TheVariants as tree
use Rattle.cv_token.specs.Bounds.{Fits}
use Rattle.cv_token.specs.Forms.{on_values}
use Rattle.cv_token.specs.Shape.{all_true, depth, greatest as deepest, greatest_value, is_token}
use Rattle.cv_token.specs.Spelling.{spelling}
use Rattle.cv_token.specs.Spells.{IsTree, Spells}
use Rattle.cv_token.proofs.Levels.{is_token-Dict}
use Rattle.cv_token.proofs.Round.{one_spelling}
use Rattle.cv_token.proofs.Strict.{value-Spells}
use Rattle.cv_behave.proofs.Fitting.{bounds_of, depth-Null}
use Rattle.cv_calc.specs.declared.kind.CalcKind.{CalcKind}
use Rattle.cv_calc.specs.declared.kind.CalcKind.TheVariants as calc
use Rattle.cv_flow.specs.declared.kind.FlowKind.{FlowKind}
use Rattle.cv_flow.specs.declared.kind.FlowKind.TheVariants as flow
use Rattle.cv_kinds.specs.declared.kind.Kind.{Kind}
use Rattle.cv_kinds.specs.declared.kind.Kind.TheVariants as kind
use Rattle.cv_kinds.specs.declared.table.Slot.{Slot}
use Rattle.cv_kinds.specs.Sorts.{are_arguments, are_slots}
use Rattle.cv_kinds.specs.Table.{Parameter, calc_line, flow_line, line_of}
use Rattle.cv_queue.specs.declared.reader.Subscription.{Subscription}
use Rattle.cv_queue.specs.Ports.{OutView}
use Rattle.cv_protocol.specs.Actors.{StateView}
use Rattle.cv_protocol.specs.declared.state.Hint.{Hint}
use Rattle.cv_protocol.specs.declared.state.Inlet.{Inlet}
use Rattle.cv_protocol.specs.declared.frame.Body.{Body}
use Rattle.cv_protocol.specs.declared.frame.Body.TheVariants as body
use Rattle.cv_protocol.specs.declared.frame.Frame.{Frame}
use Rattle.cv_frame.specs.Trees.{number, word, greatest, app_tree, actor_tree, conn_tree, inlet_tree, subscription_tree, out_tree, hint_tree, state_tree, verdict_number, body_tree, member, frame_tree}
use Rattle.cv_frame.specs.Values.{IsBody, IsFrame, IsHint, IsIn, IsOut, IsReader, IsState}
use Rattle.cv_frame.specs.laws.Ones.{rest_all}
use Rattle.cv_frame.specs.laws.Stands.{out_told}

-- a tree that JSON can hold, and that nests so deep at most
pub record Within (n : ℕ) (t : Token) : Type 0 where
  pub token : is_token t ≡ true
  pub shallow : depth t ≤ n

null-token : is_token tree.Null ≡ true
null-token = search (rules, the_lemmas)

number-token : (n : ℕ) → is_token (number n) ≡ nat_lt (min n greatest) (2 ^ 63)
number-token n = search (rules, the_lemmas)

number-depth : (n : ℕ) → depth (number n) ≡ 0
number-depth n = search (rules, the_lemmas)

pub word-token : (s : List ℕ) → is_token (word s) ≡ is_utf8 s
word-token s = search (rules, the_lemmas)

pub word-depth : (s : List ℕ) → depth (word s) ≡ 0
word-depth s = search (rules, the_lemmas)

list-token : (ts : List Token) → is_token (tree.List ts) ≡ all_true (map is_token ts)
list-token ts = search (rules, the_lemmas)

list-depth : (ts : List Token) → depth (tree.List ts) ≡ suc (deepest (map depth ts))
list-depth ts = search (rules, the_lemmas)

pub a_number : (k n : ℕ) → Within k (number n)
a_number k n = record { token = number-token n ∙ lt-ltb (min n greatest) (2 ^ 63) (omega arith); shallow = omega (arith, number-depth n) }

pub a_word : (k : ℕ) (s : List ℕ) → is_utf8 s ≡ true → Within k (word s)
a_word k s e = record { token = word-token s ∙ e; shallow = omega (arith, word-depth s) }

-- bytes of ASCII
abbrev pub are_low : List ℕ → Bool
are_low [] = true
are_low (b ∷ bs) = nat_lt b 128 && are_low bs

low_at : (bs : List ℕ) → are_low bs ≡ true → IsAscii bs
low_at [] e k = omega arith
low_at (b ∷ bs) e zero = ltb-true b 128 (and_parts _ _ e).0
low_at (b ∷ bs) e (suc k) = low_at bs (and_parts _ _ e).1 k

pub low_text : (bs : List ℕ) → are_low bs ≡ true → is_utf8 bs ≡ true
low_text bs e = is_utf8-from_IsUtf8 bs (IsUtf8-from_ascii bs (low_at bs e))

pub a_literal : (k : ℕ) (s : List ℕ) → are_low s ≡ true → Within k (word s)
a_literal k s e = a_word k s (low_text s e)

-- each of these, and those behind them
abbrev pub EachWithin : ℕ → List Token → Type 0
EachWithin n [] = Unit {0}
EachWithin n (t ∷ ts) = Within n t × EachWithin n ts

all_tokens : (n : ℕ) (ts : List Token) → EachWithin n ts → all_true (map is_token ts) ≡ true
all_tokens n [] h = refl
all_tokens n (t ∷ ts) h = rw (h.0.token, all_tokens n ts h.1) refl

all_shallow : (n : ℕ) (ts : List Token) → EachWithin n ts → deepest (map depth ts) ≤ n
all_shallow n [] h = omega arith
all_shallow n (t ∷ ts) h = omega (arith, h.0.shallow, all_shallow n ts h.1)

pub a_list : (n : ℕ) (ts : List Token) → EachWithin n ts → Within (suc n) (tree.List ts)
a_list n ts h = record { token = list-token ts ∙ all_tokens n ts h; shallow = omega (arith, list-depth ts, all_shallow n ts h) }

pub wider : (n m : ℕ) (t : Token) → n ≤ m → Within n t → Within m t
wider n m t le h = record { token = h.token; shallow = omega (arith, h.shallow) }

pub each_of : {X : Type 0} (P : X → Type 0) (f : X → Token) (n : ℕ) → ((x : X) → P x → Within n (f x)) → (xs : List X) → All P xs → EachWithin n (map f xs)
each_of P f n one [] all = tt
each_of P f n one (x ∷ xs) all = (one x (all 0 x (omega arith)), each_of P f n one xs (rest_all P x xs all))

fitting : (t : Token) → Fits t → Within 16 t
fitting t f = record { token = f.token; shallow = f.shallow }

pub each_fits : (ts : List Token) → All Fits ts → EachWithin 16 ts
each_fits [] all = tt
each_fits (t ∷ ts) all = (fitting t (all 0 t (omega arith)), each_fits ts (rest_all Fits t ts all))

-- ---- identifiers

pub an_app : (k : ℕ) (a : AppId) → Within (suc k) (app_tree a)
an_app k a = a_list k _ (a_number k a.node, (a_number k a.seq, tt))

pub an_actor : (k : ℕ) (a : ActorId) → Within (suc k) (actor_tree a)
an_actor k a = a_list k _ (a_number k a.app.node, (a_number k a.app.seq, (a_number k a.actor, tt)))

pub a_conn : (k : ℕ) (c : ConnId) → Within (suc k) (conn_tree c)
a_conn k c = a_list k _ (a_number k c.app.node, (a_number k c.app.seq, (a_number k c.place, tt)))

-- ---- states

a_null : (k : ℕ) → Within k tree.Null
a_null k = record { token = null-token; shallow = omega (arith, depth-Null) }

pub an_inlet : (i : Option Inlet) → IsIn i → Within 18 (inlet_tree i)
an_inlet None k = a_null 18
an_inlet (Some i) k = a_list 17 _ (a_conn 16 i.conn, (an_actor 16 i.producer, (a_number 17 i.port.taken, (a_list 16 _ (each_fits i.port.held k.held.fit), tt))))

a_reader : (s : Subscription) → IsReader s → Within 16 (subscription_tree s)
a_reader s k = a_list 15 _ (a_conn 14 s.conn, (an_actor 14 s.consumer, (a_number 15 s.acked, tt)))

pub an_out : (o : OutView) → IsOut o → Within 18 (out_tree o)
an_out o k =
    subst (Within 18) (sym (out_told o k))
    (a_list 17 _ (a_number 17 o.write, (a_list 16 _ (each_fits o.held k.held.fit), (a_list 16 _ (each_of IsReader subscription_tree 16 a_reader k.readers k.these.each), tt))))

pub a_hint : (h : Hint) → IsHint h → Within 18 (hint_tree h)
a_hint h k = a_list 17 _ (an_actor 16 h.actor, (a_number 17 h.attempt, (a_number 17 h.node, tt)))

args_fit : (ps : List Parameter) (ts : List Token) → are_arguments ps ts ≡ true → EachWithin 16 ts
args_fit [] [] e = tt
args_fit [] (t ∷ ts) e = cc
args_fit (p ∷ ps) [] e = cc
args_fit (p ∷ ps) (t ∷ ts) e =
    let h = and_parts _ _ e in
    let g = and_parts _ _ h.1 in
    (fitting t (bounds_of t h.0), args_fit ps ts g.1)

slots_fit : (args : List Token) (ss : List Slot) (ts : List Token) → are_slots args ss ts ≡ true → EachWithin 16 ts
slots_fit args [] [] e = tt
slots_fit args [] (t ∷ ts) e = cc
slots_fit args (s ∷ ss) [] e = cc
slots_fit args (s ∷ ss) (t ∷ ts) e =
    let h = and_parts _ _ e in
    let g = and_parts _ _ h.1 in
    (fitting t (bounds_of t h.0), slots_fit args ss ts g.1)

flow_low : (k : FlowKind) → are_low (flow_line k).name ≡ true
flow_low flow.Constant = refl
flow_low k = refl

calc_low : (k : CalcKind) → are_low (calc_line k).name ≡ true
calc_low calc.Add = refl
calc_low k = refl

name_text : (k : Kind) → is_utf8 (line_of k).name ≡ true
unfolding line_of
name_text (kind.Flow k) = low_text (flow_line k).name (flow_low k)
name_text (kind.Calc k) = low_text (calc_line k).name (calc_low k)

pub a_state : (s : StateView) → IsState s → Within 20 (state_tree s)
a_state s k =
    a_list 19 _ (
      a_literal 19 (codes "cs1") refl,
      (
        a_word 19 s.actor.spec.path k.spec.path,
        (
          a_word 19 (line_of s.actor.spec.kind).name (name_text s.actor.spec.kind),
          (
            wider 17 19 _ (omega arith) (a_list 16 _ (args_fit _ _ k.spec.args)),
            (
              wider 17 19 _ (omega arith) (a_list 16 _ (slots_fit s.actor.spec.args _ _ k.slots)),
              (
                a_number 19 s.wait,
                (
                  a_null 19,
                  (
                    a_list 18 _ (each_of IsIn inlet_tree 18 an_inlet s.actor.ins k.ins),
                    (
                      a_list 18 _ (each_of IsOut out_tree 18 an_out s.actor.outs k.outs),
                      (a_list 18 _ (each_of IsHint hint_tree 18 a_hint s.hints k.hints.each), tt),
                    ),
                  ),
                ),
              ),
            ),
          ),
        ),
      ),
    )

-- ---- frames

pub a_body : (b : Body) → IsBody b → Within 21 (body_tree b)
a_body (body.Token conn actor n t) k = a_list 20 _ (a_literal 20 (codes "token") refl, (a_conn 19 conn, (an_actor 19 actor, (a_number 20 n, (wider 16 20 t (omega arith) (fitting t k.3), tt)))))
a_body (body.Ack conn actor n) k = a_list 20 _ (a_literal 20 (codes "ack") refl, (a_conn 19 conn, (an_actor 19 actor, (a_number 20 n, tt))))
a_body (body.Nack conn actor n) k = a_list 20 _ (a_literal 20 (codes "nack") refl, (a_conn 19 conn, (an_actor 19 actor, (a_number 20 n, tt))))
a_body (body.Transfer actor n state) k = a_list 20 _ (a_literal 20 (codes "transfer") refl, (an_actor 19 actor, (a_number 20 n, (a_state state k.2, tt))))
a_body (body.Verdict actor n v) k = a_list 20 _ (a_literal 20 (codes "verdict") refl, (an_actor 19 actor, (a_number 20 n, (a_number 20 (verdict_number v), tt))))
a_body (body.Cancel actor n) k = a_list 20 _ (a_literal 20 (codes "cancel") refl, (an_actor 19 actor, (a_number 20 n, tt)))
a_body (body.Located actor n node) k = a_list 20 _ (a_literal 20 (codes "located") refl, (an_actor 19 actor, (a_number 20 n, (a_number 20 node, tt))))
a_body (body.Destroy app) k = a_list 20 _ (a_literal 20 (codes "destroy") refl, (an_app 19 app, tt))

pub dict-depth : (ps : List (Pair Token)) → depth (tree.Dict ps) ≡ suc (greatest_value (on_values depth ps))
dict-depth ps = search (rules, the_lemmas)

-- a tree with a frame's members
pub members_within : (b f s t : Token) → Within 21 b → Within 21 f → Within 21 s → Within 21 t
    → Within 22 (tree.Dict (member (codes "body") b ∷ member (codes "from") f ∷ member (codes "stamp") s ∷ member (codes "to") t ∷ []))
members_within b f s t h i j k =
    let ps = member (codes "body") b ∷ member (codes "from") f ∷ member (codes "stamp") s ∷ member (codes "to") t ∷ [] in
    record {
      token = is_token-Dict ps ∙ rw (h.token, i.token, j.token, k.token, low_text (codes "body") refl, low_text (codes "from") refl, low_text (codes "stamp") refl, low_text (codes "to") refl) refl;
      shallow = omega (arith, dict-depth ps, h.shallow, i.shallow, j.shallow, k.shallow);
    }

pub a_frame : (f : Frame) → IsFrame f → Within 22 (frame_tree f)
a_frame f k = members_within _ _ _ _ (a_body f.body k.body) (a_number 21 f.from) (a_number 21 f.stamp) (a_number 21 f.to)

pub frame_held : (f : Frame) → IsFrame f → IsTree (frame_tree f)
frame_held f k = let h = a_frame f k in record { token = h.token; shallow = omega (arith, h.shallow) }

pub state_held : (s : StateView) → IsState s → IsTree (state_tree s)
state_held s k = let h = a_state s k in record { token = h.token; shallow = omega (arith, h.shallow) }

-- ---- texts

-- a value out of the tree of its text
pub spelled_at : {V : Type 0} (Valid : V → Type 0) (encode : V → Token) → ((v : V) → Valid v → IsTree (encode v)) → (b : List ℕ) (t : Token) (o : Option V) → IsTree t × (b ≡ spelling t) → Spells Valid encode t o → Spells Valid (λ v. spelling (encode v)) b o
spelled_at Valid encode within b t None is none = λ v k e. none v k (one_spelling t (encode v) is.0 (within v k) (sym is.1 ∙ e))
spelled_at Valid encode within b t (Some v) is found = (found.0, is.1 ∙ ap spelling found.1)

-- a text that is read as a value is read as the value whose text it is
pub again : {V : Type 0} (Valid : V → Type 0) (encode : V → Token) → ((v : V) → Valid v → IsTree (encode v)) → ((u v : V) → Valid u → Valid v → encode u ≡ encode v → u ≡ v)
    → (b : List ℕ) (o : Option V) (v : V) → Spells Valid (λ v. spelling (encode v)) b o → Valid v → b ≡ spelling (encode v) → o ≡ Some v
again Valid encode within one b o v h k is =
    value-Spells Valid (λ v. spelling (encode v)) (λ u w j l e. one u w j l (one_spelling (encode u) (encode w) (within u j) (within w l) e)) b o v h k is

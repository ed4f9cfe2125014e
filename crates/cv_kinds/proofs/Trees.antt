-- Trees that JSON can hold.
use Rattle.std.proofs.Common.{◌≡◌, ℕ, zero, suc, ◌≤◌, ◌<◌, ◌^◌, pos, Bool, true, ◌&&◌, List, [], ◌∷◌, map, nat_lt, refl, ◌∙◌, arith, rules, lt-ltb, ltb-true}
use Rattle.std.proofs.lemmas.Bool.{and_parts}
use Rattle.std.proofs.lemmas.Str.{IsUtf8-from_ascii, is_utf8-from_IsUtf8}
use Rattle.std.specs.List.{All}
use Rattle.std.specs.Str.{IsAscii, is_utf8}
use Rattle.cv_token.specs.declared.token.Token.{Token, the_lemmas}
use Rattle.cv_token.specs.declared.token.Token.TheVariants as tree
use Rattle.cv_token.specs.Bounds.{Fits}
use Rattle.cv_token.specs.Shape.{all_true, depth, greatest, is_token}
use Rattle.cv_behave.proofs.Fitting.{bounds_of}
use Rattle.cv_calc.specs.declared.kind.CalcKind.{CalcKind}
use Rattle.cv_calc.specs.declared.kind.CalcKind.TheVariants as calc
use Rattle.cv_flow.specs.declared.kind.FlowKind.{FlowKind}
use Rattle.cv_flow.specs.declared.kind.FlowKind.TheVariants as flow
use Rattle.cv_kinds.specs.declared.kind.Kind.{Kind}
use Rattle.cv_kinds.specs.declared.kind.Kind.TheVariants as kind
use Rattle.cv_kinds.specs.Sorts.{are_arguments}
use Rattle.cv_kinds.specs.Table.{Parameter, calc_line, flow_line, line_of}

-- a tree that JSON can hold, and that nests so deep at most
pub record Within (n : ℕ) (t : Token) : Type 0 where
  pub token : is_token t ≡ true
  pub shallow : depth t ≤ n

null-token : is_token tree.Null ≡ true
null-token = search (rules, the_lemmas)

null-depth : depth tree.Null ≡ 0
null-depth = search (rules, the_lemmas)

int-token : (n : ℕ) → is_token (tree.Int (pos n)) ≡ nat_lt n (2 ^ 63)
int-token n = search (rules, the_lemmas)

int-depth : (n : ℕ) → depth (tree.Int (pos n)) ≡ 0
int-depth n = search (rules, the_lemmas)

text-token : (s : List ℕ) → is_token (tree.Text s) ≡ is_utf8 s
text-token s = search (rules, the_lemmas)

text-depth : (s : List ℕ) → depth (tree.Text s) ≡ 0
text-depth s = search (rules, the_lemmas)

list-token : (ts : List Token) → is_token (tree.List ts) ≡ all_true (map is_token ts)
list-token ts = search (rules, the_lemmas)

list-depth : (ts : List Token) → depth (tree.List ts) ≡ suc (greatest (map depth ts))
list-depth ts = search (rules, the_lemmas)

pub a_null : (k : ℕ) → Within k tree.Null
a_null k = record { token = null-token; shallow = omega (arith, null-depth) }

pub an_int : (k n : ℕ) → n < 2 ^ 63 → Within k (tree.Int (pos n))
an_int k n h = record { token = int-token n ∙ lt-ltb n (2 ^ 63) h; shallow = omega (arith, int-depth n) }

pub a_text : (k : ℕ) (s : List ℕ) → is_utf8 s ≡ true → Within k (tree.Text s)
a_text k s e = record { token = text-token s ∙ e; shallow = omega (arith, text-depth s) }

-- bytes of ASCII
abbrev pub are_low : List ℕ → Bool
are_low [] = true
are_low (b ∷ bs) = nat_lt b 128 && are_low bs

low_at : (bs : List ℕ) → are_low bs ≡ true → IsAscii bs
low_at [] e k = omega arith
low_at (b ∷ bs) e zero = ltb-true b 128 (and_parts _ _ e).0
low_at (b ∷ bs) e (suc k) = low_at bs (and_parts _ _ e).1 k

pub low_text : (bs : List ℕ) → are_low bs ≡ true → is_utf8 bs ≡ true
low_text bs e = is_utf8-from_IsUtf8 bs (IsUtf8-from_ascii bs (low_at bs e))

-- ---- lists

-- each of these, and those behind them
abbrev pub EachWithin : ℕ → List Token → Type 0
EachWithin n [] = Unit {0}
EachWithin n (t ∷ ts) = Within n t × EachWithin n ts

all_tokens : (n : ℕ) (ts : List Token) → EachWithin n ts → all_true (map is_token ts) ≡ true
all_tokens n [] h = refl
all_tokens n (t ∷ ts) h = rw (h.0.token, all_tokens n ts h.1) refl

all_shallow : (n : ℕ) (ts : List Token) → EachWithin n ts → greatest (map depth ts) ≤ n
all_shallow n [] h = omega arith
all_shallow n (t ∷ ts) h = omega (arith, h.0.shallow, all_shallow n ts h.1)

pub a_list : (n : ℕ) (ts : List Token) → EachWithin n ts → Within (suc n) (tree.List ts)
a_list n ts h = record { token = list-token ts ∙ all_tokens n ts h; shallow = omega (arith, list-depth ts, all_shallow n ts h) }

pub wider : (n m : ℕ) (t : Token) → n ≤ m → Within n t → Within m t
wider n m t le h = record { token = h.token; shallow = omega (arith, h.shallow) }

pub rest_all : {X : Type 0} (P : X → Type 0) (x : X) (xs : List X) → All P (x ∷ xs) → All P xs
rest_all P x xs all k d below = all (suc k) d (omega arith)

pub each_of : {X : Type 0} (P : X → Type 0) (f : X → Token) (n : ℕ) → ((x : X) → P x → Within n (f x)) → (xs : List X) → All P xs → EachWithin n (map f xs)
each_of P f n one [] all = tt
each_of P f n one (x ∷ xs) all = (one x (all 0 x (omega arith)), each_of P f n one xs (rest_all P x xs all))

-- ---- arguments and names of kinds

pub fitting : (t : Token) → Fits t → Within 16 t
fitting t f = record { token = f.token; shallow = f.shallow }

pub args_within : (ps : List Parameter) (ts : List Token) → are_arguments ps ts ≡ true → EachWithin 16 ts
args_within [] [] e = tt
args_within [] (t ∷ ts) e = cc
args_within (p ∷ ps) [] e = cc
args_within (p ∷ ps) (t ∷ ts) e =
    let h = and_parts _ _ e in
    let g = and_parts _ _ h.1 in
    (fitting t (bounds_of t h.0), args_within ps ts g.1)

flow_low : (k : FlowKind) → are_low (flow_line k).name ≡ true
flow_low flow.Constant = refl
flow_low k = refl

calc_low : (k : CalcKind) → are_low (calc_line k).name ≡ true
calc_low calc.Add = refl
calc_low k = refl

pub name_text : (k : Kind) → is_utf8 (line_of k).name ≡ true
unfolding line_of
name_text (kind.Flow k) = low_text (flow_line k).name (flow_low k)
name_text (kind.Calc k) = low_text (calc_line k).name (calc_low k)

-- each of these is of ASCII
abbrev pub all_low : List (List ℕ) → Bool
all_low [] = true
all_low (s ∷ ss) = are_low s && all_low ss

flow_ports_low : (k : FlowKind) → (all_low (flow_line k).inports && all_low (flow_line k).outports) ≡ true
flow_ports_low flow.Constant = refl
flow_ports_low k = refl

calc_ports_low : (k : CalcKind) → (all_low (calc_line k).inports && all_low (calc_line k).outports) ≡ true
calc_ports_low calc.Add = refl
calc_ports_low k = refl

pub ports_low : (k : Kind) → (all_low (line_of k).inports && all_low (line_of k).outports) ≡ true
unfolding line_of
ports_low (kind.Flow k) = flow_ports_low k
ports_low (kind.Calc k) = calc_ports_low k

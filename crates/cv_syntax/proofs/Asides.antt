-- A script is read alike at other places.
use Rattle.std.proofs.Common.{◌≡◌, ℕ, zero, suc, ◌-◌, option_map, List, [], ◌∷◌, map, Ok, Err, refl, ap, sym, ◌∙◌, rules}
use Rattle.cv_lex.specs.declared.word.Mark.{Mark}
use Rattle.cv_lex.specs.declared.word.Mark.TheVariants as marks
use Rattle.cv_lex.specs.declared.word.Reserved.TheVariants as reserved
use Rattle.cv_lex.specs.declared.word.Word.{Word}
use Rattle.cv_lex.specs.declared.word.Word.TheVariants as words
use Rattle.cv_lex.specs.declared.word.Placed.{Placed}
use Rattle.cv_readers.specs.declared.name.Name.{Name}
use Rattle.cv_readers.specs.Reading.{Read, Reader, first_is, behind, when, is_mark, is_reserved, name_in, name_at, bare_in, bare_at, text_in, text_at, reserved_at, open_at, place_of}
use Rattle.cv_readers.specs.Combining.{after, sep, listed}
use Rattle.cv_readers.proofs.Asides.{all_zeroed, first_zeroed, behind_zeroed, place_zeroed, aside, Blind, same, aside_bind, aside_mapped, aside_cond, deep_blind, behind_blind, word_blind, bare_blind, reserved_blind, open_blind, closed_blind, after_blind, many_blind, sep_blind, listed_blind}
use Rattle.cv_syntax.specs.declared.tree.Literal.{Literal}
use Rattle.cv_syntax.specs.declared.tree.Literal.TheVariants as literals
use Rattle.cv_syntax.specs.declared.tree.KindName.TheVariants as kinds
use Rattle.cv_syntax.specs.declared.tree.Value.TheVariants as values
use Rattle.cv_syntax.specs.declared.tree.JoinSource.{JoinSource}
use Rattle.cv_syntax.specs.declared.tree.JoinSource.TheVariants as sources
use Rattle.cv_syntax.specs.declared.tree.Target.TheVariants as targets
use Rattle.cv_syntax.specs.declared.tree.Statement.TheVariants as statements
use Rattle.cv_syntax.specs.declared.tree.Factor.{Factor, the_lemmas}
use Rattle.cv_syntax.specs.declared.tree.Factor.TheVariants as factors
use Rattle.cv_syntax.specs.declared.tree.Match.{Match}
use Rattle.cv_syntax.specs.declared.tree.Item.TheVariants as items
use Rattle.cv_syntax.specs.Small.{scalar_in, kind_at, target_at, aim_at, is_name, is_any_name, match_name, index_name, exactly_at, field_at, fields_at, index_at, bracket_at, group_at, match_at}
use Rattle.cv_syntax.specs.Nested.{opens, lifts, literal_with, pair_with, nest_with, nest_at, literal_at, factor_with, terms_with, lift_with, lift_at, factor_at, terms_at}
use Rattle.cv_syntax.specs.Whole.{fraction_in, is_fraction, fraction_at, value_at, arg_at, declare_at, join_at, port_at, named_at, source_at, statement_at, is_inside, body_at, component_at, define_at, rule_at, apply_at, item_at, is_anything, items_at}
use Rattle.cv_syntax.specs.Asides.{name_aside, value_aside, arg_aside, declare_aside, aim_aside, join_aside, statement_aside, factor_aside, terms_aside, component_aside, define_aside, rule_aside, apply_aside, item_aside}

-- ---- names, and a list of what has no places

name_zeroed : (at : ℕ) (w : Word) → name_in 0 w ≡ option_map name_aside (name_in at w)
name_zeroed at (words.Name text) = refl
name_zeroed at (words.Reserved r) = refl
name_zeroed at (words.Int n) = refl
name_zeroed at (words.Fraction digits) = refl
name_zeroed at (words.Text text) = refl
name_zeroed at (words.Mark m) = refl

name_blind : Blind name_aside name_at
name_blind = word_blind name_aside (λ w. name_in w.at w.word) (λ w. name_zeroed w.at w.word)

all_same : {X : Type 0} (xs : List X) → map same xs ≡ xs
all_same [] = refl
all_same (x ∷ xs) = ap (λ ys. x ∷ ys) (all_same xs)

aside_same : {X : Type 0} (a : Read (List X)) → aside (map same) a ≡ aside same a
aside_same (Ok p) = ap (λ xs. Ok (xs, all_zeroed p.1)) (all_same p.0)
aside_same (Err miss) = refl

listed_same : {X : Type 0} (close : Mark) (R : Reader X) → Blind same R → Blind same (listed close R)
listed_same close R h ws = listed_blind same close R h ws ∙ aside_same (listed close R ws)

-- ---- literals

pair_blind : (R : Reader Literal) → Blind same R → Blind same (pair_with R)
unfolding pair_with
pair_blind R h ws =
    aside_bind same same (text_at (all_zeroed ws)) (text_at ws) _ _ (bare_blind text_in ws) (λ key.
    aside_mapped same same _ _ (after marks.Colon R (all_zeroed key.1)) (after marks.Colon R key.1) (after_blind same marks.Colon R h key.1) (λ x. refl))

nest_blind : (R : Reader Literal) → Blind same R → Blind same (nest_with R)
nest_blind R h ws =
    aside_cond same (first_is (is_mark marks.OpenBracket) (all_zeroed ws)) (first_is (is_mark marks.OpenBracket) ws) _ _ _ _ (first_zeroed (is_mark marks.OpenBracket) ws)
    (aside_mapped same same literals.List literals.List _ _ (behind_blind same (listed marks.CloseBracket R) (listed_same marks.CloseBracket R h) ws) (λ x. refl))
    (aside_mapped same same literals.Dict literals.Dict _ _ (after_blind same marks.OpenBrace (listed marks.CloseBrace (pair_with R)) (listed_same marks.CloseBrace (pair_with R) (pair_blind R h)) ws) (λ x. refl))

literal_with_blind : (R : Reader Literal) → Blind same R → Blind same (literal_with R)
literal_with_blind R h ws = aside_cond same (first_is opens (all_zeroed ws)) (first_is opens ws) _ _ _ _ (first_zeroed opens ws) (h ws) (bare_blind scalar_in ws)

nest_at_blind : (n : ℕ) → Blind same (nest_at n)
nest_at_blind zero ws = deep_blind same ws
nest_at_blind (suc n) ws = nest_blind (literal_with (nest_at n)) (literal_with_blind (nest_at n) (nest_at_blind n)) ws

literal_blind : (n : ℕ) → Blind same (literal_at n)
unfolding literal_at
literal_blind n = literal_with_blind (nest_at n) (nest_at_blind n)

-- ---- the match of an expression

exactly_blind : (name : List ℕ) → Blind same (exactly_at name)
exactly_blind name = bare_blind (λ w. when (is_name name w) tt)

field_blind : Blind same field_at
unfolding field_at
field_blind ws =
    aside_bind same same (text_at (all_zeroed ws)) (text_at ws) _ _ (bare_blind text_in ws) (λ key.
    aside_mapped same same _ _ (after marks.Colon text_at (all_zeroed key.1)) (after marks.Colon text_at key.1) (after_blind same marks.Colon text_at (bare_blind text_in) key.1) (λ x. refl))

fields_blind : (n : ℕ) → Blind same (fields_at n)
unfolding fields_at
fields_blind n ws =
    aside_bind same same (open_at marks.OpenBrace n (all_zeroed ws)) (open_at marks.OpenBrace n ws) _ _ (open_blind marks.OpenBrace n ws) (λ r. listed_same marks.CloseBrace field_at field_blind r.1)

index_blind : (n : ℕ) → Blind same (index_at n)
unfolding index_at
index_blind n ws =
    aside_bind same same (text_at (all_zeroed ws)) (text_at ws) _ _ (bare_blind text_in ws) (λ group.
    aside_mapped same same _ _ (after marks.Comma (fields_at n) (all_zeroed group.1)) (after marks.Comma (fields_at n) group.1) (after_blind same marks.Comma (fields_at n) (fields_blind n) group.1) (λ x. refl))

bracket_blind : (n : ℕ) → Blind same (bracket_at n)
unfolding bracket_at
bracket_blind n ws =
    aside_bind same same (open_at marks.OpenBracket n (all_zeroed ws)) (open_at marks.OpenBracket n ws) _ _ (open_blind marks.OpenBracket n ws)
    (λ r. closed_blind same marks.CloseBracket (index_at (n - 1) (all_zeroed r.1)) (index_at (n - 1) r.1) (index_blind (n - 1) r.1))

group_blind : (n : ℕ) → Blind same (group_at n)
unfolding group_at
group_blind n ws =
    aside_bind same same (open_at marks.OpenParen n (all_zeroed ws)) (open_at marks.OpenParen n ws) _ _ (open_blind marks.OpenParen n ws)
    (λ r. aside_bind same same (exactly_at index_name (all_zeroed r.1)) (exactly_at index_name r.1) _ _ (exactly_blind index_name r.1)
    (λ i. closed_blind same marks.CloseParen (after marks.Equals (bracket_at (n - 1)) (all_zeroed i.1)) (after marks.Equals (bracket_at (n - 1)) i.1) (after_blind same marks.Equals (bracket_at (n - 1)) (bracket_blind (n - 1)) i.1)))

match_blind : (n : ℕ) → Blind same (match_at n)
unfolding match_at
match_blind n ws =
    aside_bind same same (exactly_at match_name (all_zeroed ws)) (exactly_at match_name ws) _ _ (exactly_blind match_name ws) (λ r. group_blind n r.1)

-- ---- expressions

aside-Not : (x : Factor) → factor_aside (factors.Not x) ≡ factors.Not (factor_aside x)
aside-Not x = search (rules, the_lemmas)

aside-Group : (tss : List (List Factor)) → factor_aside (factors.Group tss) ≡ factors.Group (terms_aside tss)
aside-Group tss = search (rules, the_lemmas)

aside-Name : (name : Name) → factor_aside (factors.Name name) ≡ factors.Name (name_aside name)
aside-Name name = search (rules, the_lemmas)

aside-Match : (m : Match) → factor_aside (factors.Match m) ≡ factors.Match m
aside-Match m = search (rules, the_lemmas)

terms_with_blind : (R : Reader Factor) → Blind factor_aside R → Blind terms_aside (terms_with R)
terms_with_blind R h = sep_blind (map factor_aside) marks.Bar (sep marks.Ampersand R) (sep_blind factor_aside marks.Ampersand R h)

lift_blind : (R : Reader Factor) → Blind factor_aside R → Blind factor_aside (lift_with R)
lift_blind R h ws =
    aside_cond factor_aside (first_is (is_mark marks.Tilde) (all_zeroed ws)) (first_is (is_mark marks.Tilde) ws) _ _ _ _ (first_zeroed (is_mark marks.Tilde) ws)
    (aside_mapped factor_aside factor_aside factors.Not factors.Not _ _ (behind_blind factor_aside R h ws) (λ x. sym (aside-Not x)))
    (aside_mapped terms_aside factor_aside factors.Group factors.Group _ _
    (closed_blind terms_aside marks.CloseParen _ _ (after_blind terms_aside marks.OpenParen (terms_with R) (terms_with_blind R h) ws)) (λ x. sym (aside-Group x)))

factor_with_blind : (n : ℕ) (R : Reader Factor) → Blind factor_aside R → Blind factor_aside (factor_with R n)
factor_with_blind n R h ws =
    aside_cond factor_aside (first_is lifts (all_zeroed ws)) (first_is lifts ws) _ _ _ _ (first_zeroed lifts ws) (h ws)
    (aside_cond factor_aside (first_is (is_name match_name) (all_zeroed ws)) (first_is (is_name match_name) ws) _ _ _ _ (first_zeroed (is_name match_name) ws)
    (aside_mapped same factor_aside factors.Match factors.Match (match_at n (all_zeroed ws)) (match_at n ws) (match_blind n ws) (λ x. sym (aside-Match x)))
    (aside_mapped name_aside factor_aside factors.Name factors.Name (name_at (all_zeroed ws)) (name_at ws) (name_blind ws) (λ x. sym (aside-Name x))))

lift_at_blind : (n : ℕ) → Blind factor_aside (lift_at n)
lift_at_blind zero ws = deep_blind factor_aside ws
lift_at_blind (suc n) ws = lift_blind (factor_with (lift_at n) n) (factor_with_blind n (lift_at n) (lift_at_blind n)) ws

terms_blind : (n : ℕ) → Blind terms_aside (terms_at n)
unfolding terms_at factor_at
terms_blind n = terms_with_blind (factor_at n) (factor_with_blind n (lift_at n) (lift_at_blind n))

-- ---- declarations

value_blind : (n : ℕ) → Blind value_aside (value_at n)
unfolding value_at
value_blind n ws =
    aside_cond value_aside (first_is is_fraction (all_zeroed ws)) (first_is is_fraction ws) _ _ _ _ (first_zeroed is_fraction ws)
    (aside_mapped same value_aside values.Fraction values.Fraction (fraction_at (all_zeroed ws)) (fraction_at ws) (bare_blind fraction_in ws) (λ x. refl))
    (aside_cond value_aside (first_is is_any_name (all_zeroed ws)) (first_is is_any_name ws) _ _ _ _ (first_zeroed is_any_name ws)
    (aside_mapped name_aside value_aside values.Name values.Name (name_at (all_zeroed ws)) (name_at ws) (name_blind ws) (λ x. refl))
    (aside_mapped same value_aside values.Literal values.Literal (literal_at n (all_zeroed ws)) (literal_at n ws) (literal_blind n ws) (λ x. refl)))

arg_blind : (n : ℕ) → Blind arg_aside (arg_at n)
unfolding arg_at
arg_blind n ws =
    aside_bind name_aside arg_aside (name_at (all_zeroed ws)) (name_at ws) _ _ (name_blind ws) (λ name.
    aside_mapped value_aside arg_aside _ _ (after marks.Equals (value_at n) (all_zeroed name.1)) (after marks.Equals (value_at n) name.1) (after_blind value_aside marks.Equals (value_at n) (value_blind n) name.1) (λ x. refl))

kind_blind : Blind same kind_at
unfolding kind_at
kind_blind ws =
    aside_bind same same (bare_at (all_zeroed ws)) (bare_at ws) _ _ (bare_blind bare_in ws) (λ first.
    aside_cond same (first_is (is_mark marks.Dot) (all_zeroed first.1)) (first_is (is_mark marks.Dot) first.1) _ _ _ _ (first_zeroed (is_mark marks.Dot) first.1)
    (aside_mapped same same (kinds.Dotted first.0) (kinds.Dotted first.0) _ _ (behind_blind same bare_at (bare_blind bare_in) first.1) (λ x. refl)) refl)

declare_blind : (n : ℕ) (name : Name) (ws : List Placed) → declare_at n (name_aside name) (all_zeroed ws) ≡ aside declare_aside (declare_at n name ws)
unfolding declare_at
declare_blind n name ws =
    aside_bind same declare_aside (kind_at (all_zeroed ws)) (kind_at ws) _ _ (kind_blind ws) (λ kind.
    aside_mapped (map arg_aside) declare_aside _ _ (after marks.OpenParen (listed marks.CloseParen (arg_at n)) (all_zeroed kind.1)) (after marks.OpenParen (listed marks.CloseParen (arg_at n)) kind.1)
    (after_blind (map arg_aside) marks.OpenParen (listed marks.CloseParen (arg_at n)) (listed_blind arg_aside marks.CloseParen (arg_at n) (arg_blind n)) kind.1) (λ x. refl))

-- ---- joins

target_blind : Blind same target_at
unfolding target_at
target_blind ws =
    aside_cond same (first_is (is_reserved reserved.Voidport) (all_zeroed ws)) (first_is (is_reserved reserved.Voidport) ws) _ _ _ _ (first_zeroed (is_reserved reserved.Voidport) ws)
    (ap (λ rest. Ok (targets.Voidport, rest)) (behind_zeroed ws))
    (aside_cond same (first_is (is_mark marks.Dot) (all_zeroed ws)) (first_is (is_mark marks.Dot) ws) _ _ _ _ (first_zeroed (is_mark marks.Dot) ws)
    (aside_mapped same same targets.Own targets.Own _ _ (behind_blind same bare_at (bare_blind bare_in) ws) (λ x. refl))
    (aside_bind same same (bare_at (all_zeroed ws)) (bare_at ws) _ _ (bare_blind bare_in ws) (λ actor.
    aside_mapped same same (targets.Port actor.0) (targets.Port actor.0) _ _ (after_blind same marks.Dot bare_at (bare_blind bare_in) actor.1) (λ x. refl))))

aim_blind : Blind aim_aside aim_at
unfolding aim_at
aim_blind ws = aside_mapped same aim_aside _ _ (target_at (all_zeroed ws)) (target_at ws) (target_blind ws) (λ x. ap (λ at. record { at = at; target = x }) (place_zeroed ws))

join_blind : (at place : ℕ) (source : JoinSource) (ws : List Placed) → at ≡ 0 → join_at at source (all_zeroed ws) ≡ aside join_aside (join_at place source ws)
unfolding join_at
join_blind at place source ws e =
    aside_mapped (map aim_aside) join_aside _ _ (after marks.Greater (sep marks.Comma aim_at) (all_zeroed ws)) (after marks.Greater (sep marks.Comma aim_at) ws)
    (after_blind (map aim_aside) marks.Greater (sep marks.Comma aim_at) (sep_blind aim_aside marks.Comma aim_at aim_blind) ws) (λ x. ap (λ k. record { at = k; source = source; targets = map aim_aside x }) e)

port_blind : (name : Name) (ws : List Placed) → port_at (name_aside name) (all_zeroed ws) ≡ aside same (port_at name ws)
unfolding port_at
port_blind name ws =
    aside_cond same (first_is (is_mark marks.Dot) (all_zeroed ws)) (first_is (is_mark marks.Dot) ws) _ _ _ _ (first_zeroed (is_mark marks.Dot) ws)
    (aside_mapped same same (sources.Port name.text) (sources.Port name.text) _ _ (behind_blind same bare_at (bare_blind bare_in) ws) (λ x. refl)) refl

named_blind : (n : ℕ) (name : Name) (ws : List Placed) → named_at n (name_aside name) (all_zeroed ws) ≡ aside statement_aside (named_at n name ws)
unfolding named_at
named_blind n name ws =
    aside_cond statement_aside (first_is (is_mark marks.Colon) (all_zeroed ws)) (first_is (is_mark marks.Colon) ws) _ _ _ _ (first_zeroed (is_mark marks.Colon) ws)
    (aside_mapped declare_aside statement_aside statements.Declare statements.Declare _ _ (ap (declare_at n (name_aside name)) (behind_zeroed ws) ∙ declare_blind n name (behind ws)) (λ x. refl))
    (aside_bind same statement_aside (port_at (name_aside name) (all_zeroed ws)) (port_at name ws) _ _ (port_blind name ws) (λ source.
    aside_mapped join_aside statement_aside statements.Join statements.Join _ _ (join_blind 0 name.at source.0 source.1 refl) (λ x. refl)))

source_blind : (n : ℕ) → Blind same (source_at n)
unfolding source_at
source_blind n ws =
    aside_cond same (first_is (is_reserved reserved.Voidport) (all_zeroed ws)) (first_is (is_reserved reserved.Voidport) ws) _ _ _ _ (first_zeroed (is_reserved reserved.Voidport) ws)
    (ap (λ rest. Ok (sources.Voidport, rest)) (behind_zeroed ws))
    (aside_cond same (first_is (is_mark marks.Dot) (all_zeroed ws)) (first_is (is_mark marks.Dot) ws) _ _ _ _ (first_zeroed (is_mark marks.Dot) ws)
    (aside_mapped same same sources.Own sources.Own _ _ (behind_blind same bare_at (bare_blind bare_in) ws) (λ x. refl))
    (aside_mapped same same sources.Literal sources.Literal (literal_at n (all_zeroed ws)) (literal_at n ws) (literal_blind n ws) (λ x. refl)))

statement_blind : (n : ℕ) → Blind statement_aside (statement_at n)
unfolding statement_at
statement_blind n ws =
    aside_cond statement_aside (first_is is_any_name (all_zeroed ws)) (first_is is_any_name ws) _ _ _ _ (first_zeroed is_any_name ws)
    (aside_bind name_aside statement_aside (name_at (all_zeroed ws)) (name_at ws) _ _ (name_blind ws) (λ name. named_blind n name.0 name.1))
    (aside_bind same statement_aside (source_at n (all_zeroed ws)) (source_at n ws) _ _ (source_blind n ws) (λ source.
    aside_mapped join_aside statement_aside statements.Join statements.Join _ _ (join_blind (place_of (all_zeroed ws)) (place_of ws) source.0 source.1 (place_zeroed ws)) (λ x. refl)))

-- ---- what stands at the root

body_blind : (n : ℕ) → Blind (map statement_aside) (body_at n)
unfolding body_at
body_blind n ws = closed_blind (map statement_aside) marks.CloseBrace _ _ (many_blind statement_aside is_inside (statement_at n) (statement_blind n) ws)

-- a place put to 0
abbrev no_number : ℕ → ℕ
no_number at = 0

names_blind : (close : Mark) → Blind (map name_aside) (listed close name_at)
names_blind close = listed_blind name_aside close name_at name_blind

component_blind : (n : ℕ) → Blind component_aside (component_at n)
unfolding component_at
component_blind n ws =
    aside_bind no_number component_aside (reserved_at reserved.Component (all_zeroed ws)) (reserved_at reserved.Component ws) _ _ (reserved_blind reserved.Component ws) (λ c.
    aside_bind name_aside component_aside (name_at (all_zeroed c.1)) (name_at c.1) _ _ (name_blind c.1) (λ name.
    aside_bind (map name_aside) component_aside (after marks.OpenParen (listed marks.CloseParen name_at) (all_zeroed name.1)) (after marks.OpenParen (listed marks.CloseParen name_at) name.1) _ _
    (after_blind (map name_aside) marks.OpenParen (listed marks.CloseParen name_at) (names_blind marks.CloseParen) name.1) (λ args.
    aside_bind (map name_aside) component_aside (listed marks.Arrow name_at (all_zeroed args.1)) (listed marks.Arrow name_at args.1) _ _ (names_blind marks.Arrow args.1) (λ ins.
    aside_bind (map name_aside) component_aside (listed marks.OpenBrace name_at (all_zeroed ins.1)) (listed marks.OpenBrace name_at ins.1) _ _ (names_blind marks.OpenBrace ins.1) (λ outs.
    aside_mapped (map statement_aside) component_aside _ _ (body_at n (all_zeroed outs.1)) (body_at n outs.1) (body_blind n outs.1) (λ x. refl))))))

define_blind : (n : ℕ) → Blind define_aside (define_at n)
unfolding define_at
define_blind n ws =
    aside_bind no_number define_aside (reserved_at reserved.Define (all_zeroed ws)) (reserved_at reserved.Define ws) _ _ (reserved_blind reserved.Define ws) (λ d.
    aside_bind name_aside define_aside (name_at (all_zeroed d.1)) (name_at d.1) _ _ (name_blind d.1) (λ name.
    aside_mapped value_aside define_aside _ _ (after marks.Equals (value_at n) (all_zeroed name.1)) (after marks.Equals (value_at n) name.1) (after_blind value_aside marks.Equals (value_at n) (value_blind n) name.1) (λ x. refl)))

rule_blind : (n : ℕ) → Blind rule_aside (rule_at n)
unfolding rule_at
rule_blind n ws =
    aside_bind no_number rule_aside (reserved_at reserved.Rule (all_zeroed ws)) (reserved_at reserved.Rule ws) _ _ (reserved_blind reserved.Rule ws) (λ r.
    aside_bind name_aside rule_aside (name_at (all_zeroed r.1)) (name_at r.1) _ _ (name_blind r.1) (λ name.
    aside_mapped terms_aside rule_aside _ _ (after marks.Colon (terms_at n) (all_zeroed name.1)) (after marks.Colon (terms_at n) name.1) (after_blind terms_aside marks.Colon (terms_at n) (terms_blind n) name.1) (λ x. refl)))

apply_blind : (n : ℕ) → Blind apply_aside (apply_at n)
unfolding apply_at
apply_blind n ws =
    aside_bind no_number apply_aside (reserved_at reserved.Apply (all_zeroed ws)) (reserved_at reserved.Apply ws) _ _ (reserved_blind reserved.Apply ws) (λ a.
    aside_bind (map name_aside) apply_aside (sep marks.Comma name_at (all_zeroed a.1)) (sep marks.Comma name_at a.1) _ _ (sep_blind name_aside marks.Comma name_at name_blind a.1) (λ names.
    aside_mapped terms_aside apply_aside _ _ (after marks.Colon (terms_at n) (all_zeroed names.1)) (after marks.Colon (terms_at n) names.1) (after_blind terms_aside marks.Colon (terms_at n) (terms_blind n) names.1) (λ x. refl)))

item_blind : (n : ℕ) → Blind item_aside (item_at n)
unfolding item_at
item_blind n ws =
    aside_cond item_aside (first_is (is_reserved reserved.Component) (all_zeroed ws)) (first_is (is_reserved reserved.Component) ws) _ _ _ _ (first_zeroed (is_reserved reserved.Component) ws)
    (aside_mapped component_aside item_aside items.Component items.Component _ _ (component_blind n ws) (λ x. refl))
    (aside_cond item_aside (first_is (is_reserved reserved.Define) (all_zeroed ws)) (first_is (is_reserved reserved.Define) ws) _ _ _ _ (first_zeroed (is_reserved reserved.Define) ws)
    (aside_mapped define_aside item_aside items.Define items.Define _ _ (define_blind n ws) (λ x. refl))
    (aside_cond item_aside (first_is (is_reserved reserved.Rule) (all_zeroed ws)) (first_is (is_reserved reserved.Rule) ws) _ _ _ _ (first_zeroed (is_reserved reserved.Rule) ws)
    (aside_mapped rule_aside item_aside items.Rule items.Rule _ _ (rule_blind n ws) (λ x. refl))
    (aside_cond item_aside (first_is (is_reserved reserved.Apply) (all_zeroed ws)) (first_is (is_reserved reserved.Apply) ws) _ _ _ _ (first_zeroed (is_reserved reserved.Apply) ws)
    (aside_mapped apply_aside item_aside items.Apply items.Apply _ _ (apply_blind n ws) (λ x. refl))
    (aside_mapped statement_aside item_aside items.Statement items.Statement _ _ (statement_blind n ws) (λ x. refl)))))

pub items_blind : (n : ℕ) → Blind (map item_aside) (items_at n)
unfolding items_at
items_blind n = many_blind item_aside is_anything (item_at n) (item_blind n)

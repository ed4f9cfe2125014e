-- Bytes that have a fault of their lexemes or of the grammar are answered with it.
use Rattle.std.proofs.Common.{◌≡◌, ℕ, ◌⊎◌, inl, inr, List, length, Result, Ok, Err, refl, sym, ◌∙◌, subst}
use Rattle.std.specs.Prelude.{Vec}
use Rattle.std.specs.Str.{IsUtf8}
use Rattle.cv_kinds.specs.Net.{Net}
use Rattle.cv_lex.specs.declared.lexeme.Lexeme.{Lexeme}
use Rattle.cv_lex.specs.declared.lexeme.LexFault.{LexFault}
use Rattle.cv_lex.specs.declared.lexeme.LexFault.TheVariants as lexing
use Rattle.cv_lex.specs.Faults.{HasFault as HasLexFault}
use Rattle.cv_lex.specs.Lexemes.{Gives as LexGives, Fails}
use Rattle.cv_lex.specs.Spelling.{SpellsLexemes}
use Rattle.cv_syntax.specs.declared.fault.ParseFault.{ParseFault}
use Rattle.cv_syntax.specs.declared.fault.ParseFault.TheVariants as parsing
use Rattle.cv_syntax.specs.declared.tree.Script.{Script}
use Rattle.cv_syntax.specs.Grammar.{HasFault as HasParseFault}
use Rattle.cv_syntax.specs.Parsing.{words_of, Answers, FailsAt}
use Rattle.cv_deploy.specs.declared.fault.Code.{Code}
use Rattle.cv_deploy.specs.declared.fault.Code.TheVariants as code
use Rattle.cv_deploy.specs.declared.fault.Fault.{Fault}
use Rattle.cv_deploy.specs.declared.fault.NoNetwork.{NoNetwork}
use Rattle.cv_deploy.specs.declared.fault.NoNetwork.TheVariants as refusal
use Rattle.cv_deploy.specs.Faults.{StandsAt, FailsToLex, FailsToParse, SpellsFault, HasCode, HasFault, Refuses, SaysAt, LexedTo, ParsedTo, first_fault}

-- ---- what each code says

-- faults of the lexemes with that cause are answered
abbrev LexAnswered : List ℕ → Result Script NoNetwork → Fault → Type 0
LexAnswered bytes r fault = (cause : ℕ → LexFault) (c : Code) → ((at : ℕ) (q : NoNetwork) → LexedTo bytes (cause at) q → SaysAt bytes at c q) → fault.code ≡ c → FailsToLex bytes cause fault → Refuses r fault

-- and so are those of the grammar
abbrev ParseAnswered : List ℕ → Result Script NoNetwork → Fault → Type 0
ParseAnswered bytes r fault = (cause : ℕ → ParseFault) (c : Code) → ((at : ℕ) (q : NoNetwork) → ParsedTo bytes (cause at) q → SaysAt bytes at c q) → fault.code ≡ c → FailsToParse bytes cause fault → Refuses r fault

by_code : (bytes : List ℕ) (r : Result Script NoNetwork) (fault : Fault) → IsUtf8 bytes → LexAnswered bytes r fault → ParseAnswered bytes r fault → (c : Code) → fault.code ≡ c → HasCode bytes fault c → Refuses r fault ⊎ SpellsFault bytes fault
by_code bytes r fault utf8 lexed parsed code.NotUtf8 e h = absurd (h.0 utf8)
by_code bytes r fault utf8 lexed parsed code.BadChar e h = inl (lexed lexing.BadChar code.BadChar (λ at q told. told) e h)
by_code bytes r fault utf8 lexed parsed code.OpenText e h = inl (lexed lexing.OpenText code.OpenText (λ at q told. told) e h)
by_code bytes r fault utf8 lexed parsed code.OpenComment e h = inl (lexed lexing.OpenComment code.OpenComment (λ at q told. told) e h)
by_code bytes r fault utf8 lexed parsed code.WideNumber e h = inl (lexed lexing.WideNumber code.WideNumber (λ at q told. told) e h)
by_code bytes r fault utf8 lexed parsed code.BadEscape e h = inl (lexed lexing.BadEscape code.BadEscape (λ at q told. told) e h)
by_code bytes r fault utf8 lexed parsed code.LongName e h = inl (lexed lexing.LongName code.LongName (λ at q told. told) e h)
by_code bytes r fault utf8 lexed parsed code.Unexpected e h = inl (parsed parsing.Unexpected code.Unexpected (λ at q told. told) e h)
by_code bytes r fault utf8 lexed parsed code.TooDeep e h = inl (parsed parsing.TooDeep code.TooDeep (λ at q told. told) e h)
by_code bytes r fault utf8 lexed parsed code.NoComponent e h = inr h
by_code bytes r fault utf8 lexed parsed code.Recursion e h = inr h
by_code bytes r fault utf8 lexed parsed code.ArgCount e h = inr h
by_code bytes r fault utf8 lexed parsed code.NoArg e h = inr h
by_code bytes r fault utf8 lexed parsed code.DoubleName e h = inr h
by_code bytes r fault utf8 lexed parsed code.TooMany e h = inr h
by_code bytes r fault utf8 lexed parsed code.NoKind e h = inr h
by_code bytes r fault utf8 lexed parsed code.Fraction e h = inr h
by_code bytes r fault utf8 lexed parsed code.BadArg e h = inr h
by_code bytes r fault utf8 lexed parsed code.NoPort e h = inr h
by_code bytes r fault utf8 lexed parsed code.FedTwice e h = inr h
by_code bytes r fault utf8 lexed parsed code.Unfed e h = inr h
by_code bytes r fault utf8 lexed parsed code.BatchOverQueue e h = inr h
by_code bytes r fault utf8 lexed parsed code.Unbuilt e h = inr h

-- ---- one place and one code

same_fault : (bytes : List ℕ) (at : ℕ) (told fault : Fault) → StandsAt bytes at told → StandsAt bytes at fault → told.code ≡ fault.code → told ≡ fault
same_fault bytes at told fault h g codes_same =
    let lines : told.line ≡ fault.line = h.0 ∙ sym g.0 in
    let cols : told.col ≡ fault.col = h.1 ∙ sym g.1 in
    (λ i. record { line = lines i; col = cols i; code = codes_same i })

says_same : (bytes : List ℕ) (at : ℕ) (c : Code) (q : NoNetwork) (fault : Fault) → SaysAt bytes at c q → StandsAt bytes at fault → fault.code ≡ c → Refuses {X = Script} (Err q) fault
says_same bytes at c (refusal.Script told) fault says stands e = same_fault bytes at told fault says.0 stands (says.1 ∙ sym e)
says_same bytes at c refusal.OutOfMemory fault says stands e = absurd says

wanting : (q : NoNetwork) (fault : Fault) → q ≡ refusal.OutOfMemory → Refuses {X = Script} (Err q) fault
wanting (refusal.Script told) fault e = cc
wanting refusal.OutOfMemory fault e = tt

-- ---- the lexer stopped

told_lexed : (told fault : LexFault) → Fails told (Err fault) → (told ≡ lexing.OutOfMemory) ⊎ (fault ≡ told)
told_lexed (lexing.BadChar at) fault e = inr cc
told_lexed (lexing.OpenText at) fault e = inr cc
told_lexed (lexing.OpenComment at) fault e = inr cc
told_lexed (lexing.WideNumber at) fault e = inr cc
told_lexed (lexing.BadEscape at) fault e = inr cc
told_lexed (lexing.LongName at) fault e = inr cc
told_lexed lexing.OutOfMemory fault e = inl refl

only_wanting : (told : LexFault) (found : List Lexeme) → Fails told (Ok found) → told ≡ lexing.OutOfMemory
only_wanting (lexing.BadChar at) found e = cc
only_wanting (lexing.OpenText at) found e = cc
only_wanting (lexing.OpenComment at) found e = cc
only_wanting (lexing.WideNumber at) found e = cc
only_wanting (lexing.BadEscape at) found e = cc
only_wanting (lexing.LongName at) found e = cc
only_wanting lexing.OutOfMemory found e = refl

lexed_as : (bytes : List ℕ) (told : LexFault) (q : NoNetwork) (fault : Fault) (at : ℕ) (c : Code) (cause : LexFault) → LexedTo bytes told q → (LexedTo bytes cause q → SaysAt bytes at c q) → StandsAt bytes at fault → fault.code ≡ c → (told ≡ lexing.OutOfMemory) ⊎ (cause ≡ told) → Refuses {X = Script} (Err q) fault
lexed_as bytes told q fault at c cause lexed says stands e (inl none) = wanting q fault (subst (λ (f : LexFault). LexedTo bytes f q) none lexed)
lexed_as bytes told q fault at c cause lexed says stands e (inr same) = says_same bytes at c q fault (says (subst (λ (f : LexFault). LexedTo bytes f q) (sym same) lexed)) stands e

pub lex_stopped : (bytes : List ℕ) (told : LexFault) (q : NoNetwork) (fault : Fault) → IsUtf8 bytes → LexedTo bytes told q → ((f : LexFault) → HasLexFault bytes f → Fails told (Err f)) → ((found : List Lexeme) → SpellsLexemes 0 bytes found → Fails told (Ok found)) → HasFault bytes fault → Refuses {X = Script} (Err q) fault ⊎ SpellsFault bytes fault
lex_stopped bytes told q fault utf8 lexed faulty only h =
    by_code bytes (Err q) fault utf8
    (λ cause c says e f. lexed_as bytes told q fault f.1.0 c (cause f.1.0) lexed (says f.1.0 q) f.1.2 e (told_lexed told (cause f.1.0) (faulty (cause f.1.0) f.1.1)))
    (λ cause c says e f. wanting q fault (subst (λ (f : LexFault). LexedTo bytes f q) (only_wanting told f.1.0 (only f.1.0 f.1.2)) lexed))
    fault.code refl h

-- ---- the lexemes are read

found_all : {A : Type 0} (lexemes : Vec Lexeme A) (found : List Lexeme) → LexGives {A = A} (Ok lexemes) (Ok found) → found ≡ lexemes.items
found_all lexemes found e = cc

no_lex_fault : {A : Type 0} (lexemes : Vec Lexeme A) (fault : LexFault) → LexGives {A = A} (Ok lexemes) (Err fault) → ⊥
no_lex_fault lexemes fault e = cc

told_parsed : (told fault : ParseFault) → FailsAt told (Err fault) → (told ≡ parsing.OutOfMemory) ⊎ (fault ≡ told)
told_parsed (parsing.Unexpected at) fault e = inr cc
told_parsed (parsing.TooDeep at) fault e = inr cc
told_parsed parsing.OutOfMemory fault e = inl refl

parsed_as : (bytes : List ℕ) (told : ParseFault) (q : NoNetwork) (fault : Fault) (at : ℕ) (c : Code) (cause : ParseFault) → ParsedTo bytes told q → (ParsedTo bytes cause q → SaysAt bytes at c q) → StandsAt bytes at fault → fault.code ≡ c → (told ≡ parsing.OutOfMemory) ⊎ (cause ≡ told) → Refuses {X = Script} (Err q) fault
parsed_as bytes told q fault at c cause parsed says stands e (inl none) = wanting q fault (subst (λ (f : ParseFault). ParsedTo bytes f q) none parsed)
parsed_as bytes told q fault at c cause parsed says stands e (inr same) = says_same bytes at c q fault (says (subst (λ (f : ParseFault). ParsedTo bytes f q) (sym same) parsed)) stands e

no_parse_fault : (script : Script) (fault : ParseFault) → Answers (Ok script) (Err fault) → ⊥
no_parse_fault script fault e = cc

-- the words are those of the lexemes that were read
same_words : (bytes : List ℕ) (found lexemes : List Lexeme) (fault : ParseFault) → found ≡ lexemes → HasParseFault (length bytes) (words_of bytes found) fault → HasParseFault (length bytes) (words_of bytes lexemes) fault
same_words bytes found lexemes fault e h = subst (λ (ls : List Lexeme). HasParseFault (length bytes) (words_of bytes ls) fault) e h

pub parse_stopped : {A : Type 0} (bytes : List ℕ) (lexemes : Vec Lexeme A) (told : ParseFault) (q : NoNetwork) (fault : Fault) → IsUtf8 bytes → ParsedTo bytes told q → ((f : LexFault) → HasLexFault bytes f → LexGives {A = A} (Ok lexemes) (Err f)) → ((found : List Lexeme) → SpellsLexemes 0 bytes found → LexGives {A = A} (Ok lexemes) (Ok found)) → ((f : ParseFault) → HasParseFault (length bytes) (words_of bytes lexemes.items) f → FailsAt told (Err f)) → HasFault bytes fault → Refuses {X = Script} (Err q) fault ⊎ SpellsFault bytes fault
parse_stopped bytes lexemes told q fault utf8 parsed lex_faulty lex_only faulty h =
    by_code bytes (Err q) fault utf8
    (λ cause c says e f. absurd (no_lex_fault lexemes (cause f.1.0) (lex_faulty (cause f.1.0) f.1.1)))
    (λ cause c says e f.
    let at = f.1.1 in
    let has = same_words bytes f.1.0 lexemes.items (cause at) (found_all lexemes f.1.0 (lex_only f.1.0 f.1.2)) f.1.3 in
    parsed_as bytes told q fault at c (cause at) parsed (says at q) f.1.4 e (told_parsed told (cause at) (faulty (cause at) has)))
    fault.code refl h

pub script_read : {A : Type 0} (bytes : List ℕ) (lexemes : Vec Lexeme A) (script : Script) (fault : Fault) → IsUtf8 bytes → ((f : LexFault) → HasLexFault bytes f → LexGives {A = A} (Ok lexemes) (Err f)) → ((found : List Lexeme) → SpellsLexemes 0 bytes found → LexGives {A = A} (Ok lexemes) (Ok found)) → ((f : ParseFault) → HasParseFault (length bytes) (words_of bytes lexemes.items) f → Answers (Ok script) (Err f)) → HasFault bytes fault → SpellsFault bytes fault
script_read bytes lexemes script fault utf8 lex_faulty lex_only faulty h =
    elim (by_code bytes (Ok script) fault utf8
    (λ cause c says e f. absurd (no_lex_fault lexemes (cause f.1.0) (lex_faulty (cause f.1.0) f.1.1)))
    (λ cause c says e f.
    let at = f.1.1 in
    let has = same_words bytes f.1.0 lexemes.items (cause at) (found_all lexemes f.1.0 (lex_only f.1.0 f.1.2)) f.1.3 in
    absurd (no_parse_fault script (cause at) (faulty (cause at) has)))
    fault.code refl h) [ inl none ↦ absurd none | inr spells ↦ spells ]

-- ---- no UTF-8

no_text : (bytes : List ℕ) (fault : Fault) → (IsUtf8 bytes → ⊥) → (c : Code) → fault.code ≡ c → HasCode bytes fault c → first_fault code.NotUtf8 ≡ fault
no_text bytes fault none code.NotUtf8 e h =
    let lines : 1 ≡ fault.line = sym h.1.0 in
    let cols : 1 ≡ fault.col = sym h.1.1 in
    let codes_same : code.NotUtf8 ≡ fault.code = sym e in
    (λ i. record { line = lines i; col = cols i; code = codes_same i })
no_text bytes fault none code.BadChar e h = absurd (none h.0)
no_text bytes fault none code.OpenText e h = absurd (none h.0)
no_text bytes fault none code.OpenComment e h = absurd (none h.0)
no_text bytes fault none code.WideNumber e h = absurd (none h.0)
no_text bytes fault none code.BadEscape e h = absurd (none h.0)
no_text bytes fault none code.LongName e h = absurd (none h.0)
no_text bytes fault none code.Unexpected e h = absurd (none h.0)
no_text bytes fault none code.TooDeep e h = absurd (none h.0)
no_text bytes fault none code.NoComponent e h = absurd (none h.1.0)
no_text bytes fault none code.Recursion e h = absurd (none h.1.0)
no_text bytes fault none code.ArgCount e h = absurd (none h.1.0)
no_text bytes fault none code.NoArg e h = absurd (none h.1.0)
no_text bytes fault none code.DoubleName e h = absurd (none h.1.0)
no_text bytes fault none code.TooMany e h = absurd (none h.1.0)
no_text bytes fault none code.NoKind e h = absurd (none h.1.0)
no_text bytes fault none code.Fraction e h = absurd (none h.1.0)
no_text bytes fault none code.BadArg e h = absurd (none h.1.0)
no_text bytes fault none code.NoPort e h = absurd (none h.1.0)
no_text bytes fault none code.FedTwice e h = absurd (none h.1.0)
no_text bytes fault none code.Unfed e h = absurd (none h.1.0)
no_text bytes fault none code.BatchOverQueue e h = absurd (none h.1.0)
no_text bytes fault none code.Unbuilt e h = absurd (none h.1.0)

pub not_utf8 : (bytes : List ℕ) (fault : Fault) → (IsUtf8 bytes → ⊥) → HasFault bytes fault → first_fault code.NotUtf8 ≡ fault
not_utf8 bytes fault none h = no_text bytes fault none fault.code refl h

-- a refusal refuses as much of another value
pub refuses_other : (q : NoNetwork) (fault : Fault) → Refuses {X = Script} (Err q) fault → Refuses {X = Net} (Err q) fault
refuses_other (refusal.Script told) fault same = same
refuses_other refusal.OutOfMemory fault same = tt

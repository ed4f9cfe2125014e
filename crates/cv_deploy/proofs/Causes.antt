-- The cause of each refusal of the bytes of a script.
use Rattle.std.proofs.Common.{ℕ, List, length, Err, sym, subst}
use Rattle.std.specs.Str.{IsUtf8}
use Rattle.cv_lex.specs.declared.lexeme.Lexeme.{Lexeme}
use Rattle.cv_lex.specs.declared.lexeme.LexFault.{LexFault}
use Rattle.cv_lex.specs.declared.lexeme.LexFault.TheVariants as lexing
use Rattle.cv_lex.specs.Faults.{IsCaused as IsLexCaused}
use Rattle.cv_lex.specs.Spelling.{SpellsLexemes}
use Rattle.cv_syntax.specs.declared.fault.ParseFault.{ParseFault}
use Rattle.cv_syntax.specs.declared.fault.ParseFault.TheVariants as parsing
use Rattle.cv_syntax.specs.Grammar.{IsFault}
use Rattle.cv_syntax.specs.Parsing.{words_of}
use Rattle.cv_deploy.specs.declared.fault.Fault.{Fault}
use Rattle.cv_deploy.specs.declared.fault.NoNetwork.{NoNetwork}
use Rattle.cv_deploy.specs.declared.fault.NoNetwork.TheVariants as refusal
use Rattle.cv_deploy.specs.Faults.{HasCode, IsCaused, LexedTo, ParsedTo, Gives, Refuses}

pub parse_caused : (bytes : List ℕ) (found : List Lexeme) (fault : ParseFault) (r : NoNetwork) → IsUtf8 bytes → SpellsLexemes 0 bytes found → IsFault (length bytes) (words_of bytes found) fault → ParsedTo bytes fault r → IsCaused bytes r
parse_caused bytes found (parsing.Unexpected at) (refusal.Script f) utf8 lexed is told = subst (HasCode bytes f) (sym told.1) (utf8, (found, at, lexed, is, told.0))
parse_caused bytes found (parsing.TooDeep at) (refusal.Script f) utf8 lexed is told = subst (HasCode bytes f) (sym told.1) (utf8, (found, at, lexed, is, told.0))
parse_caused bytes found (parsing.Unexpected at) refusal.OutOfMemory utf8 lexed is told = tt
parse_caused bytes found (parsing.TooDeep at) refusal.OutOfMemory utf8 lexed is told = tt
parse_caused bytes found parsing.OutOfMemory (refusal.Script f) utf8 lexed is told = cc
parse_caused bytes found parsing.OutOfMemory refusal.OutOfMemory utf8 lexed is told = tt

-- a refusal by want of memory says as much of another value
pub gives_err : {X Y : Type 0} → (e : NoNetwork) (x : X) (y : Y) → Gives {X = X} (Err e) x → Gives {X = Y} (Err e) y
gives_err (refusal.Script fault) x y none = none
gives_err refusal.OutOfMemory x y none = tt

-- a refusal by want of memory refuses any fault
pub refuses_err : {X : Type 0} → (Y : Type 0) (e : NoNetwork) (x : X) (fault : Fault) → Gives {X = X} (Err e) x → Refuses {X = Y} (Err e) fault
refuses_err Y (refusal.Script told) x fault none = absurd none
refuses_err Y refusal.OutOfMemory x fault none = tt

-- a fault of the lexemes is one of the bytes
pub lex_caused : (bytes : List ℕ) (fault : LexFault) (r : NoNetwork) → IsUtf8 bytes → IsLexCaused bytes fault → LexedTo bytes fault r → IsCaused bytes r
lex_caused bytes (lexing.BadChar at) (refusal.Script f) utf8 is told = subst (HasCode bytes f) (sym told.1) (utf8, (at, is, told.0))
lex_caused bytes (lexing.BadChar at) refusal.OutOfMemory utf8 is told = tt
lex_caused bytes (lexing.OpenText at) (refusal.Script f) utf8 is told = subst (HasCode bytes f) (sym told.1) (utf8, (at, is, told.0))
lex_caused bytes (lexing.OpenText at) refusal.OutOfMemory utf8 is told = tt
lex_caused bytes (lexing.OpenComment at) (refusal.Script f) utf8 is told = subst (HasCode bytes f) (sym told.1) (utf8, (at, is, told.0))
lex_caused bytes (lexing.OpenComment at) refusal.OutOfMemory utf8 is told = tt
lex_caused bytes (lexing.WideNumber at) (refusal.Script f) utf8 is told = subst (HasCode bytes f) (sym told.1) (utf8, (at, is, told.0))
lex_caused bytes (lexing.WideNumber at) refusal.OutOfMemory utf8 is told = tt
lex_caused bytes (lexing.BadEscape at) (refusal.Script f) utf8 is told = subst (HasCode bytes f) (sym told.1) (utf8, (at, is, told.0))
lex_caused bytes (lexing.BadEscape at) refusal.OutOfMemory utf8 is told = tt
lex_caused bytes (lexing.LongName at) (refusal.Script f) utf8 is told = subst (HasCode bytes f) (sym told.1) (utf8, (at, is, told.0))
lex_caused bytes (lexing.LongName at) refusal.OutOfMemory utf8 is told = tt
lex_caused bytes lexing.OutOfMemory (refusal.Script f) utf8 is told = cc
lex_caused bytes lexing.OutOfMemory refusal.OutOfMemory utf8 is told = tt

-- What reading gives, in the grammar's words.
use Rattle.std.proofs.Common.{List, Result, Ok, Err, subst}
use Rattle.std.specs.Prelude.{IfOk}
use Rattle.sv_world.specs.declared.action.Action.{Action}
use Rattle.sv_text.specs.declared.fault.TextFault.{TextFault}
use Rattle.sv_text.specs.declared.fault.ParseFault.{ParseFault}
use Rattle.sv_text.specs.declared.token.Lexeme.{Lexeme}
use Rattle.sv_text.specs.Reading.{Gives, reading}
use Rattle.sv_text.specs.Grammar.{IsActionText}
use Rattle.sv_text.proofs.FoundAction.{action_found}
use Rattle.sv_text.proofs.AgainAction.{action_again}

pub is_found : (ts : List Lexeme) (r : Result Action ParseFault) → Gives (λ a. a) r (reading ts) → IfOk r (λ a. IsActionText a ts)
is_found ts (Ok a) given = action_found ts a given
is_found ts (Err e) given = tt

pub is_read : (ts : List Lexeme) (r : Result Action ParseFault) → Gives (λ a. a) r (reading ts) → (a : Action) → IsActionText a ts → Gives (λ a. a) r (Ok a)
is_read ts r given a text = subst (λ (read : Result Action TextFault). Gives (λ a. a) r read) (action_again a ts text) given

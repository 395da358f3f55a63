-- A reply without a fault has a fault of no kind.
use Rattle.std.proofs.Common.{◌≡◌, Bool, true, false, not, Option, Some, None, refl, sym}
use Rattle.std.specs.Prelude.{if◌then◌else◌}
use Rattle.std.proofs.lemmas.Option.{none-some}
use Rattle.sv_client.specs.Taking.{Fault, WrongKind, BadOrder, BadItem}

pub kind-of : (b : Bool) (o : Option Fault) → (if not b then Some WrongKind else o) ≡ None → b ≡ true
kind-of true o e = refl
kind-of false o e = absurd (none-some WrongKind (sym e))

pub order-of : (b c : Bool) (o : Option Fault) → (if not b then Some WrongKind else if c then Some BadOrder else o) ≡ None → c ≡ false
order-of true true o e = absurd (none-some BadOrder (sym e))
order-of true false o e = refl
order-of false c o e = absurd (none-some WrongKind (sym e))

pub good-of : (b c d : Bool) (o : Option Fault) → (if not b then Some WrongKind else if c then Some BadOrder else if d then Some BadItem else o) ≡ None → d ≡ false
good-of true true d o e = absurd (none-some BadOrder (sym e))
good-of true false true o e = absurd (none-some BadItem (sym e))
good-of true false false o e = refl
good-of false c d o e = absurd (none-some WrongKind (sym e))

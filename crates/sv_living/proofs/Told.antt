-- Answers that are given, or else memory was wanting.
use Rattle.std.proofs.Common.{◌≡◌, ℕ, true, false, List, Option, Some, None, Result, Ok, Err, IfOk, IfErr, OnErr, IsOk, MatchResult, refl}
use Rattle.sv_wire.specs.declared.message.Request.{Request}
use Rattle.sv_wire.specs.declared.message.Request.TheVariants as requests
use Rattle.sv_journal.specs.declared.entry.Entry.{Entry}
use Rattle.sv_journal.specs.Sessions.{is_end}
use Rattle.sv_core.specs.declared.answer.Answer.{Answer}
use Rattle.sv_core.specs.declared.seats.Seat.{Seat}
use Rattle.sv_living.specs.Sessions.{may_ask}
use Rattle.sv_living.specs.World.{IsStepFault, told}

pub if-ok : {T E : Type 0} (P Q : T → Type 0) (o : Result T E) → ((t : T) → P t → Q t) → IfOk o P → IfOk o Q
if-ok P Q (Ok t) further is = further t is
if-ok P Q (Err e) further is = tt

pub on-err : {T E : Type 0} {P : Type 0} (o : Result T E) → P → OnErr o P
on-err (Ok t) p = tt
on-err (Err e) p = p

pub on-errs : {T E : Type 0} (P Q : Type 0) (o : Result T E) → (P → Q) → OnErr o P → OnErr o Q
on-errs P Q (Ok t) further is = tt
on-errs P Q (Err e) further is = further is

module _ {E : Type 0} where
  pub told-ok : (P : Answer → Type 0) (o : Result Answer E) → IfOk o P → IfOk (told o) P
  told-ok P (Ok answer) is = is
  told-ok P (Err e) is = tt

  pub told-err : (P : Type 0) (o : Result Answer E) → OnErr o P → IfErr (told o) (λ _. P)
  told-err P (Ok answer) is = tt
  told-err P (Err e) is = is

  pub told-cause : (h : List Entry) (s : ℕ) (o : Result Answer E) → may_ask h s ≡ true → MatchResult (told o) (λ _. may_ask h s ≡ true) (IsStepFault h s)
  told-cause h s (Ok answer) may = may
  told-cause h s (Err e) may = may

  pub told-is : (o : Result Answer E) → IsOk o → IsOk (told o)
  told-is (Ok answer) is = is
  told-is (Err e) is = is

pub none-of : (o : Option Seat) → ((seat : Seat) → o ≡ Some seat → ⊥) → o ≡ None
none-of None never = refl
none-of (Some seat) never = absurd (never seat refl)

pub no-end : (q : Request) → (q ≡ requests.End → ⊥) → is_end q ≡ false
no-end requests.End never = absurd (never refl)
no-end requests.Poll never = refl
no-end (requests.Join client life interest) never = refl
no-end (requests.Submit seq a) never = refl
no-end (requests.Done results) never = refl
no-end (requests.Observe objects wait) never = refl
no-end requests.Leave never = refl
no-end requests.Bad never = refl

-- The text of an event, told in two parts.
use Rattle.std.proofs.Common.{◌≡◌, ℕ, suc, ◌+◌, ◌-◌, List, [], ◌∷◌, ◌++◌, length, slice_get, Some, append_assoc, refl, ap, ◌∙◌, arith}
use Rattle.std.proofs.lemmas.List.{append-nil}
use Rattle.std.specs.Prelude.{Option, Result, Ok, Err, OnOk, if◌then◌else◌, codes}
use Rattle.std.specs.Result.{is_ok}
use Rattle.std.specs.Fmt.{decimal}
use Rattle.sv_pending.specs.Pending.{PendingAction, kept_of}
use Rattle.sv_client.specs.declared.trace.Event.{Event}
use Rattle.sv_client.specs.declared.trace.Event.TheVariants as events
use Rattle.sv_client.specs.Traces.{makes, held_of, pending_of}
use Rattle.sv_report.specs.Again.{again, last_kept_text, text_of, text_before, text_after}

pushed_last : {X : Type 0} (xs : List X) (x : X) → slice_get (xs ++ x ∷ []) (length (xs ++ x ∷ []) - 1) ≡ Some x
pushed_last [] x = refl
pushed_last (y ∷ []) x = refl
pushed_last (y ∷ z ∷ xs) x =
    let n : length (y ∷ z ∷ (xs ++ x ∷ [])) - 1 ≡ suc (length (z ∷ (xs ++ x ∷ [])) - 1) = omega arith in
    ap (slice_get (y ∷ z ∷ (xs ++ x ∷ []))) n ∙ pushed_last (z ∷ xs) x

both_parts : (number : ℕ) (t : List Event) (e : Event) → text_before number t e ++ text_after (again t e ∷ t) e ≡ text_of number t e
both_parts number t (events.Make a) =
    ap (λ (o : Option PendingAction). (codes "make " ++ decimal (makes t + 1) ++ codes " kept ") ++ last_kept_text o)
    (pushed_last (pending_of t) (record { seq = suc (makes t); action = a; kept = kept_of (held_of t) (pending_of t) a }))
both_parts number t (events.Join s) = append-nil (text_of number t (events.Join s))
both_parts number t events.Poll = append-nil (text_of number t events.Poll)
both_parts number t (events.Observe objects wait) = append-nil (text_of number t (events.Observe objects wait))
both_parts number t events.Leave = append-nil (text_of number t events.Leave)
both_parts number t (events.Got s reply) = append-nil (text_of number t (events.Got s reply))
both_parts number t events.Cut = append-nil (text_of number t events.Cut)
both_parts number t events.Quit = append-nil (text_of number t events.Quit)
both_parts number t (events.Show os) = append-nil (text_of number t (events.Show os))

-- The text before an event and that after it are the event's.
pub told_whole : (number : ℕ) (t u : List Event) (e : Event) (out before after : List ℕ) → u ≡ again t e ∷ t
    → before ≡ out ++ text_before number t e → after ≡ before ++ text_after u e → after ≡ out ++ text_of number t e
told_whole number t u e out before after d b a =
    a ∙ ap (λ (xs : List Event). before ++ text_after xs e) d ∙ ap (λ (xs : List ℕ). xs ++ text_after (again t e ∷ t) e) b
    ∙ append_assoc out (text_before number t e) (text_after (again t e ∷ t) e) ∙ ap (λ (xs : List ℕ). out ++ xs) (both_parts number t e)

-- Where the end of a line was put, the line stands.
pub ended : {T E : Type 0} (r : Result T E) (new old text end : List ℕ) → old ≡ text → new ≡ (if is_ok r then old ++ end else old) → OnOk r (new ≡ text ++ end)
ended (Ok x) new old text end e put = put ∙ ap (λ (xs : List ℕ). xs ++ end) e
ended (Err f) new old text end e put = tt

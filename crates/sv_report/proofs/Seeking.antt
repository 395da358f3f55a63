-- The entries of a session, sought from a place on.
use Rattle.std.proofs.Common.{◌≡◌, ℕ, zero, suc, ◌+◌, ◌≤◌, Bool, true, false, eqb, List, [], ◌∷◌, ◌++◌, length, drop, Some, refl, sym, ap, ◌∙◌, arith}
use Rattle.std.proofs.lemmas.Bool.{eq-eqb}
use Rattle.std.proofs.lemmas.List.{length-drop, length-append}
use Rattle.sv_wire.specs.declared.message.Reply.{Reply}
use Rattle.sv_journal.specs.declared.entry.Entry.{Entry}
use Rattle.sv_client.specs.declared.trace.Event.{Event}
use Rattle.sv_client.specs.declared.trace.Event.TheVariants as events
use Rattle.sv_client.specs.Traces.{current_session, got}
use Rattle.sv_client.specs.Taking.{Identity}
use Rattle.sv_client.specs.Proper.{AreProper, MayFollow}
use Rattle.sv_client.proofs.Sessions.{no_got}
use Rattle.sv_report.specs.Report.{entry_number}
use Rattle.sv_report.specs.Again.{behind_next, place_after, IsPlace}

pub drop_one : {X : Type 0} (xs ys : List X) (x : X) (p : ℕ) → drop p xs ≡ x ∷ ys → drop (p + 1) xs ≡ ys
drop_one [] ys x zero e = cc
drop_one [] ys x (suc p) e = cc
drop_one (z ∷ zs) ys x zero e = cc
drop_one (z ∷ zs) ys x (suc p) e = let next : suc p + 1 ≡ suc (p + 1) = omega arith in rw next (drop_one zs ys x p e)

-- The entry after the next one, counted from the next one, is the next one from behind it.
later_from : (E : List Entry) (s r p : ℕ) (es : List Entry) → drop p E ≡ es
    → entry_number es s (suc r) (p + 1) ≡ entry_number (drop (behind_next es s p) E) s r (behind_next es s p + 1)
later_from E s r p [] e = sym (ap (λ ys. entry_number ys s r (p + 1)) e)
later_from E s r p (x ∷ es) e = go (eqb x.session s) refl (later_from E s r (p + 1) es (drop_one E es x p e))
  where
    go : (b : Bool) → eqb x.session s ≡ b
        → entry_number es s (suc r) (p + 1 + 1) ≡ entry_number (drop (behind_next es s (p + 1)) E) s r (behind_next es s (p + 1) + 1)
        → entry_number (x ∷ es) s (suc r) (p + 1) ≡ entry_number (drop (behind_next (x ∷ es) s p) E) s r (behind_next (x ∷ es) s p + 1)
    go true q ih = rw q (sym (ap (λ ys. entry_number ys s r (p + 1 + 1)) (drop_one E es x p e)))
    go false q ih = rw q ih

pub later : (E : List Entry) (s r p : ℕ) → entry_number (drop p E) s (suc r) (p + 1)
    ≡ entry_number (drop (behind_next (drop p E) s p) E) s r (behind_next (drop p E) s p + 1)
later E s r p = later_from E s r p (drop p E) refl

behind_low : (es : List Entry) (s p n : ℕ) → p + length es ≤ n → behind_next es s p ≤ n
behind_low [] s p n l = omega (arith, l)
behind_low (x ∷ es) s p n l = go (eqb x.session s) refl (behind_low es s (p + 1) n (omega (arith, l)))
  where
    go : (b : Bool) → eqb x.session s ≡ b → behind_next es s (p + 1) ≤ n → behind_next (x ∷ es) s p ≤ n
    go true q ih = rw q (omega (arith, l))
    go false q ih = rw q ih

pub behind_within : (E : List Entry) (s p : ℕ) → p ≤ length E → behind_next (drop p E) s p ≤ length E
behind_within E s p l = behind_low (drop p E) s p (length E) (omega (arith, l, length-drop p E))

-- ---- The place after an event

kept_place : (entries : List Entry) (t u : List Event) (place : ℕ) → IsPlace entries t place → current_session u ≡ current_session t → ((s : ℕ) → got u s ≡ got t s) → IsPlace entries u place
kept_place entries t u place h c g = record {
  within = h.within;
  numbers = λ s r e. ap (λ (rs : List Reply). entry_number entries s (length rs + r) 1) (g s) ∙ h.numbers s r (sym c ∙ e);
}

joined_place : (who : Identity) (first : ℕ) (entries : List Entry) (t : List Event) (s : ℕ) → AreProper who first t → MayFollow who first t (events.Join s)
    → IsPlace entries (events.Join s ∷ t) 0
joined_place who first entries t s p m = record {
  within = omega arith;
  numbers = λ n r e.
      let same : s ≡ n = cc in
      let none : got t n ≡ [] = no_got who first t p n (omega (arith, m.next, same)) in
      ap (λ (rs : List Reply). entry_number entries n (length rs + r) 1) none ∙ ap (λ (k : ℕ). entry_number entries n k 1) (let sum : 0 + r ≡ r = omega arith in sum);
}

got_more : (t : List Event) (s n : ℕ) (reply : Reply) → s ≡ n → got (events.Got s reply ∷ t) n ≡ got t n ++ reply ∷ []
got_more t s n reply e = rw (eq-eqb s n e) refl

got_place : (entries : List Entry) (t : List Event) (s place : ℕ) (reply : Reply) → current_session t ≡ Some s → IsPlace entries t place
    → IsPlace entries (events.Got s reply ∷ t) (behind_next (drop place entries) s place)
got_place entries t s place reply c h = record {
  within = behind_within entries s place h.within;
  numbers = λ n r e.
      let same : s ≡ n = cc in
      let long : length (got t n ++ reply ∷ []) + r ≡ length (got t n) + suc r = omega (arith, length-append (got t n) (reply ∷ [])) in
      ap (λ (rs : List Reply). entry_number entries n (length rs + r) 1) (got_more t s n reply same)
      ∙ ap (λ (k : ℕ). entry_number entries n k 1) long
      ∙ h.numbers n (suc r) e
      ∙ later entries n r place
      ∙ ap (λ (k : ℕ). entry_number (drop (behind_next (drop place entries) k place) entries) n r (behind_next (drop place entries) k place + 1)) (sym same);
}

pub next_place : (who : Identity) (first : ℕ) (entries : List Entry) (t : List Event) (e : Event) (place : ℕ) → AreProper who first t → MayFollow who first t e
    → IsPlace entries t place → IsPlace entries (e ∷ t) (place_after entries place e)
next_place who first entries t (events.Join s) place p m h = joined_place who first entries t s p m
next_place who first entries t (events.Make a) place p m h = kept_place entries t (events.Make a ∷ t) place h refl (λ s. refl)
next_place who first entries t events.Poll place p m h = kept_place entries t (events.Poll ∷ t) place h refl (λ s. refl)
next_place who first entries t (events.Observe objects wait) place p m h = kept_place entries t (events.Observe objects wait ∷ t) place h refl (λ s. refl)
next_place who first entries t events.Leave place p m h = kept_place entries t (events.Leave ∷ t) place h refl (λ s. refl)
next_place who first entries t (events.Got s reply) place p m h = got_place entries t s place reply m.current h
next_place who first entries t events.Cut place p m h = kept_place entries t (events.Cut ∷ t) place h refl (λ s. refl)
next_place who first entries t events.Quit place p m h = kept_place entries t (events.Quit ∷ t) place h refl (λ s. refl)
next_place who first entries t (events.Show os) place p m h = kept_place entries t (events.Show os ∷ t) place h refl (λ s. refl)

pub first_place : (entries : List Entry) → IsPlace entries [] 0
first_place entries = record { within = omega arith; numbers = λ s r e. cc }

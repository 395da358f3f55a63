-- The accepted actions of a journal are those that its clients made.
use Rattle.std.proofs.Common.{◌≡◌, ℕ, suc, true, inl, inr, cond, eqb, List, [], ◌∷◌, length, reverse, Option, Some, None, slice_get, refl, sym, true≢false}
use Rattle.std.specs.Prelude.{All}
use Rattle.std.specs.List.{list_any, AllByRecursion}
use Rattle.std.proofs.lemmas.Bool.{or_cases, cases_Bool}
use Rattle.std.proofs.lemmas.List.Elements.{recursion_from_All}
use Rattle.sv_world.specs.declared.action.Action.{Action}
use Rattle.sv_wire.specs.declared.message.Request.{Request}
use Rattle.sv_wire.specs.declared.message.Request.TheVariants as requests
use Rattle.sv_wire.specs.Ranges.{ActionFits, RequestFits}
use Rattle.sv_journal.specs.declared.entry.Entry.{Entry}
use Rattle.sv_journal.specs.History.{Authored, client_of, is_relay, new_action, outcomes_of, accepted, actions_of}
use Rattle.sv_journal.specs.Sessions.{is_end}
use Rattle.sv_journal.specs.Answer.{Rules}
use Rattle.sv_client.specs.declared.trace.Event.{Event}
use Rattle.sv_client.specs.declared.trace.Event.TheVariants as events
use Rattle.sv_client.specs.declared.trace.Trace.{Trace}
use Rattle.sv_client.specs.Traces.{requests_of}
use Rattle.law_system.specs.Fits.{requests_in, has_session, FitsOne, is_owned, Fits}
use Rattle.law_system.proofs.Histories.{IsEarlier, same, after, earlier-rest}
use Rattle.law_system.proofs.Entered.{of-from, request-there}
use Rattle.law_asked.specs.Asked.{EventFits}
use Rattle.law_system.proofs.Every.{each-at, each-append, each-if, each-map, each-more, each-reverse}
use Rattle.law_asked.proofs.Made.{Makes, Asks, asked-have}

-- what holds of each entry holds of one of them
pub entry-at : (P : Entry → Type 0) (e : Entry) (h H : List Entry) → IsEarlier (e ∷ h) H → AllByRecursion P H → P e
entry-at P e h whole same all = all.0
entry-at P e h whole (after {g} d b) all = entry-at P e h g b all.1

-- The action of a Submit has it.
abbrev pub SubmitHas : (Action → Type 0) → Request → Type 0
SubmitHas P (requests.Submit n a) = P a
SubmitHas P _ = Unit {0}

pub submit-asked : (P : Action → Type 0) (q : Request) → Asks P q → SubmitHas P q
submit-asked P (requests.Submit n a) h = h
submit-asked P (requests.Join client life interest) h = tt
submit-asked P (requests.Done results) h = tt
submit-asked P requests.Poll h = tt
submit-asked P (requests.Observe objects wait) h = tt
submit-asked P requests.Leave h = tt
submit-asked P requests.Bad h = tt
submit-asked P requests.End h = tt

pub end-submits : (P : Action → Type 0) (q : Request) → is_end q ≡ true → SubmitHas P q
end-submits P requests.End e = tt
end-submits P (requests.Submit n a) e = absurd (true≢false (sym e))
end-submits P (requests.Join client life interest) e = tt
end-submits P (requests.Done results) e = tt
end-submits P requests.Poll e = tt
end-submits P (requests.Observe objects wait) e = tt
end-submits P requests.Leave e = tt
end-submits P requests.Bad e = tt

owner-of : (Ls : List Trace) (s : ℕ) → list_any (λ (L : Trace). has_session L s) Ls ≡ true → (j : ℕ) × ((M : Trace) × ((slice_get Ls j ≡ Some M) × (has_session M s ≡ true)))
owner-of [] s h = absurd (true≢false (sym h))
owner-of (L ∷ Ls) s h =
    elim (or_cases (has_session L s) (list_any (λ (M : Trace). has_session M s) Ls) h) [
      | inl e ↦ (0, (L, (refl, e)))
      | inr e ↦ (let f = owner-of Ls s e in (suc f.0, f.1))
    ]

-- The numbers of a request that is an End.
pub end-fits : (q : Request) → is_end q ≡ true → RequestFits q
end-fits requests.End e = tt
end-fits (requests.Join client life interest) e = absurd (true≢false (sym e))
end-fits (requests.Submit seq a) e = absurd (true≢false (sym e))
end-fits (requests.Done results) e = absurd (true≢false (sym e))
end-fits requests.Poll e = tt
end-fits (requests.Observe objects wait) e = absurd (true≢false (sym e))
end-fits requests.Leave e = tt
end-fits requests.Bad e = tt

pub event-makes : (e : Event) → EventFits e → Makes ActionFits e
event-makes (events.Make a) f = f
event-makes (events.Join s) f = tt
event-makes events.Poll f = tt
event-makes (events.Observe objects wait) f = f
event-makes events.Leave f = tt
event-makes (events.Got s reply) f = tt
event-makes events.Cut f = tt
event-makes events.Quit f = tt
event-makes (events.Show objects) f = tt

new-fit : (o : Option ℕ) (next : ℕ → ℕ) (q : Request) → SubmitHas ActionFits q → AllByRecursion (λ (a : Authored). ActionFits a.action) (new_action o next q)
new-fit (Some k) next (requests.Submit seq a) h = each-if (λ (x : Authored). ActionFits x.action) (eqb seq (next k)) (record { client = k; seq = seq; action = a } ∷ []) (h, tt)
new-fit (Some k) next (requests.Join client life interest) h = tt
new-fit (Some k) next (requests.Done results) h = tt
new-fit (Some k) next requests.Poll h = tt
new-fit (Some k) next (requests.Observe objects wait) h = tt
new-fit (Some k) next requests.Leave h = tt
new-fit (Some k) next requests.Bad h = tt
new-fit (Some k) next requests.End h = tt
new-fit None next q h = tt

-- The numbers of the accepted actions, where those of each entry's Submit are known after the entries before.
pub accepted-have : (H : List Entry) → ((e : Entry) (g : List Entry) → IsEarlier (e ∷ g) H → SubmitHas ActionFits e.request) → (g : List Entry) → IsEarlier g H →
    AllByRecursion (λ (a : Authored). ActionFits a.action) (accepted g)
accepted-have H each [] b = tt
accepted-have H each (e ∷ g) b =
    let new = new_action (client_of g e.session) (λ k. suc (length (outcomes_of g k))) e.request in
    each-append (λ (a : Authored). ActionFits a.action) (accepted g) (cond (is_relay e.reply) new []) (accepted-have H each g (earlier-rest g e H b))
    (each-if (λ (a : Authored). ActionFits a.action) (is_relay e.reply) new (new-fit (client_of g e.session) (λ k. suc (length (outcomes_of g k))) e.request (each e g b)))

module _ (r : Rules) (H : List Entry) (Ls : List Trace) (fits : Fits r.world.shape H Ls) (made : All (λ (L : Trace). All EventFits L.events) Ls) where
  trace-made : (j : ℕ) (M : Trace) → slice_get Ls j ≡ Some M → AllByRecursion EventFits M.events
  trace-made j M e = recursion_from_All EventFits M.events (each-at (λ (L : Trace). All EventFits L.events) Ls j M (recursion_from_All (λ (L : Trace). All EventFits L.events) Ls made) e)

  asked-fit : (j : ℕ) (M : Trace) → slice_get Ls j ≡ Some M → (s n : ℕ) (q : Request) → slice_get (requests_of M s) n ≡ Some q → SubmitHas ActionFits q
  asked-fit j M e s n q there =
      let events = each-reverse (Makes ActionFits) M.events (each-more EventFits (Makes ActionFits) event-makes M.events (trace-made j M e)) in
      submit-asked ActionFits q (each-at (Asks ActionFits) (requests_of M s) n q (asked-have ActionFits M.client M.interest (reverse M.events) s events) there)

  entry-fit : (e : Entry) (g : List Entry) → IsEarlier (e ∷ g) H → SubmitHas ActionFits e.request
  entry-fit e g b =
      elim (cases_Bool (is_end e.request)) [
        | inl x ↦ end-submits ActionFits e.request x
        | inr x ↦
            (let owned : is_owned Ls e ≡ true = entry-at (λ (d : Entry). is_owned Ls d ≡ true) e g H b (recursion_from_All (λ (d : Entry). is_owned Ls d ≡ true) H fits.owned) in
            elim (or_cases (is_end e.request) (list_any (λ (L : Trace). has_session L e.session) Ls) owned) [
              | inl y ↦ end-submits ActionFits e.request y
              | inr y ↦
                  (let o = owner-of Ls e.session y in
                  let one = each-at (FitsOne r.world.shape H) Ls o.0 o.1.0 (recursion_from_All (FitsOne r.world.shape H) Ls fits.each) o.1.1.0 in
                  let there = (one.sessions e.session o.1.1.1).asked (length (requests_in g e.session)) e.request (request-there e g H e.session b (of-from e e.session refl x)) in
                  asked-fit o.0 o.1.0 o.1.1.0 e.session (length (requests_in g e.session)) e.request there)
            ])
      ]

  pub actions-fit : AllByRecursion ActionFits (actions_of H)
  actions-fit = each-map (λ (a : Authored). a.action) ActionFits (accepted H) (accepted-have H entry-fit H same)

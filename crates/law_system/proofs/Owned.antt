-- Each session that was joined as an honest client is one of its trace's: where each client is honest, and where all but one are.
use Rattle.std.proofs.Common.{◌≡◌, ℕ, zero, suc, true, ◌&&◌, ◌==◌, inl, inr, List, [], ◌∷◌, Some, slice_get, refl, sym, ap, ◌∙◌, subst, eqb-true, true≢false, ◌<◌, arith, eq-eqb}
use Rattle.std.specs.Prelude.{All}
use Rattle.std.specs.List.{list_any, AllByRecursion}
use Rattle.std.proofs.lemmas.Bool.{or_cases, or_left, or_right, and_parts, and_from}
use Rattle.std.proofs.lemmas.List.Elements.{All-from_recursion, recursion_from_All}
use Rattle.std.proofs.lemmas.Option.{none-some, same_Some}
use Rattle.sv_world.specs.declared.world.ClientId.{ClientId}
use Rattle.sv_world.specs.declared.world.Shape.{Shape}
use Rattle.sv_journal.specs.declared.entry.Entry.{Entry}
use Rattle.sv_journal.specs.Sessions.{is_end}
use Rattle.sv_journal.specs.Answer.{Rules, Legal}
use Rattle.sv_journal.specs.Serving.{plain}
use Rattle.sv_journal.proofs.Plain.{plain-keeping, plain-legal}
use Rattle.sv_client.specs.declared.trace.Trace.{Trace}
use Rattle.law_system.specs.Fits.{has_session, FitsOne, AreApart, AreAllApart, is_owned, Fits}
use Rattle.law_system.specs.Served.{is_session_of, FitsBut, no_client, OwnsSessions}
use Rattle.law_system.proofs.Histories.{IsEarlier, same, after}
use Rattle.law_system.proofs.Asking.{IsServed, fits-but_values}
use Rattle.law_system.proofs.Opened.{welcomed-by, join-of}
use Rattle.law_system.proofs.Every.{each-at}

apart-same : (Ls : List Trace) → AreAllApart Ls → (i j : ℕ) (L M : Trace) → slice_get Ls i ≡ Some L → slice_get Ls j ≡ Some M → L.client ≡ M.client → L ≡ M
apart-same [] apart i j L M a b e = absurd (none-some L a)
apart-same (N ∷ Ls) apart zero zero L M a b e = sym (same_Some N L a) ∙ same_Some N M b
apart-same (N ∷ Ls) apart zero (suc j) L M a b e =
    absurd ((each-at (AreApart N) Ls j M (recursion_from_All (AreApart N) Ls apart.0) b).clients (ap (λ (T : Trace). T.client) (same_Some N L a) ∙ e))
apart-same (N ∷ Ls) apart (suc i) zero L M a b e =
    absurd ((each-at (AreApart N) Ls i L (recursion_from_All (AreApart N) Ls apart.0) a).clients (ap (λ (T : Trace). T.client) (same_Some N M b) ∙ sym e))
apart-same (N ∷ Ls) apart (suc i) (suc j) L M a b e = apart-same Ls apart.1 i j L M a b e

same-client : (a b : ClientId) → a.0 ≡ b.0 → a ≡ b
same-client a b e = ap (λ (n : ℕ). record { 0 = n }) e

pub one-of : (shape : Shape) (H : List Entry) (Ls : List Trace) → All (FitsOne shape H) Ls → (i : ℕ) (L : Trace) → slice_get Ls i ≡ Some L → FitsOne shape H L
one-of shape H Ls each i L member = each-at (FitsOne shape H) Ls i L (recursion_from_All (FitsOne shape H) Ls each) member

-- ---- Where all but one are

find-session : (Ls : List Trace) (k s : ℕ) → is_session_of Ls k s ≡ true → (j : ℕ) × ((M : Trace) × ((slice_get Ls j ≡ Some M) × ((M.client.0 ≡ k) × (has_session M s ≡ true))))
find-session [] k s h = absurd (true≢false (sym h))
find-session (L ∷ Ls) k s h =
    elim (or_cases (L.client.0 == k && has_session L s) (is_session_of Ls k s) h) [
      | inl e ↦ (let p = and_parts (L.client.0 == k) (has_session L s) e in (0, (L, (refl, (eqb-true L.client.0 k p.0, p.1)))))
      | inr e ↦ (let f = find-session Ls k s e in (suc f.0, f.1))
    ]

pub owns-but : (liar : ℕ) (shape : Shape) (H : List Entry) (Ls : List Trace) → FitsBut liar shape H Ls → (i : ℕ) (L : Trace) → slice_get Ls i ≡ Some L → OwnsSessions H L
owns-but liar shape H Ls fits i L member s c =
    let other = each-at (λ (T : Trace). T.client.0 ≡ liar → ⊥) Ls i L (recursion_from_All (λ (T : Trace). T.client.0 ≡ liar → ⊥) Ls fits.honest) member in
    let o = find-session Ls L.client.0 s (fits.joined s L.client.0 c other) in
    let M = o.1.0 in
    let same_trace : L ≡ M = apart-same Ls fits.apart i o.0 L M member o.1.1.0 (same-client L.client M.client (sym o.1.1.1.0)) in
    subst (λ (T : Trace). has_session T s ≡ true) (sym same_trace) o.1.1.1.1

-- ---- Where each client is honest

owned-at : (Ls : List Trace) (e : Entry) (h g : List Entry) → IsEarlier (e ∷ h) g → AllByRecursion (λ (d : Entry). is_owned Ls d ≡ true) g → is_owned Ls e ≡ true
owned-at Ls e h all' same o = o.0
owned-at Ls e h all' (after {g} d c) o = owned-at Ls e h g c o.1

some-session : (shape : Shape) (H : List Entry) (k s : ℕ) → ((L : Trace) → FitsOne shape H L → has_session L s ≡ true → L.client.0 ≡ k) → (Ls : List Trace) →
    AllByRecursion (FitsOne shape H) Ls → list_any (λ (L : Trace). has_session L s) Ls ≡ true → is_session_of Ls k s ≡ true
some-session shape H k s own [] each h = absurd (true≢false (sym h))
some-session shape H k s own (L ∷ Ls) each h =
    elim (or_cases (has_session L s) (list_any (λ (M : Trace). has_session M s) Ls) h) [
      | inl e ↦ or_left (L.client.0 == k && has_session L s) (is_session_of Ls k s) (and_from (L.client.0 == k) (has_session L s) (eq-eqb L.client.0 k (own L each.0 e)) e)
      | inr e ↦ or_right (L.client.0 == k && has_session L s) (is_session_of Ls k s) (some-session shape H k s own Ls each.1 e)
    ]

none-liar : (shape : Shape) (H : List Entry) (Ls : List Trace) → AllByRecursion (FitsOne shape H) Ls → AllByRecursion (λ (L : Trace). L.client.0 ≡ no_client → ⊥) Ls
none-liar shape H [] each = tt
none-liar shape H (L ∷ Ls) each = (λ e. (let few : L.client.0 < 65536 = each.0.trace.client in absurd (omega arith)), none-liar shape H Ls each.1)

-- Then no client is the liar.
pub fits-none : (shape : Shape) (H : List Entry) (Ls : List Trace) → Fits shape H Ls → FitsBut no_client shape H Ls
fits-none shape H Ls fits =
    let each = recursion_from_All (FitsOne shape H) Ls fits.each in
    record {
      each = fits.each;
      apart = fits.apart;
      honest = All-from_recursion (λ (L : Trace). L.client.0 ≡ no_client → ⊥) Ls (none-liar shape H Ls each);
      joined = λ s k c other.
          let w = welcomed-by H s k c in
          let own : (M : Trace) → FitsOne shape H M → has_session M w.entry.session ≡ true → M.client.0 ≡ k =
          λ M fit has.
          (let j = join-of shape H M (fits-but_values shape H M fit) w.entry w.before w.earlier has w.client w.life w.welcome.interest w.welcome.request in
          ap (λ (d : ClientId). d.0) (sym j.client_is) ∙ w.client_is) in
          subst (λ (n : ℕ). is_session_of Ls k n ≡ true) w.session
          (elim (or_cases (is_end w.entry.request) (list_any (λ (M : Trace). has_session M w.entry.session) Ls)
          (owned-at Ls w.entry w.before H w.earlier (recursion_from_All (λ (d : Entry). is_owned Ls d ≡ true) H fits.owned))) [
            | inl x ↦ absurd (true≢false (sym x ∙ ap is_end w.welcome.request))
            | inr x ↦ some-session shape H k w.entry.session own Ls each x
          ]);
    }

pub owns-own : (shape : Shape) (H : List Entry) (Ls : List Trace) → Fits shape H Ls → (i : ℕ) (L : Trace) → slice_get Ls i ≡ Some L → OwnsSessions H L
owns-own shape H Ls fits = owns-but no_client shape H Ls (fits-none shape H Ls fits)

pub plain-served : (r : Rules) (H : List Entry) (Ls : List Trace) → Legal r H → Fits r.world.shape H Ls → (i : ℕ) (L : Trace) → slice_get Ls i ≡ Some L → IsServed plain r H L
plain-served r H Ls legal fits i L member = record {
  keeps = plain-keeping;
  legal = plain-legal r H legal;
  fits = fits-but_values r.world.shape H L (one-of r.world.shape H Ls fits.each i L member);
}

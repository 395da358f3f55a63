-- What was seen is one cut: once it is taken, each of its objects is held, at its position, as the serial execution has it there.
use Rattle.std.proofs.Common.{◌≡◌, ℕ, suc, ◌<◌, ◌≤◌, true, ◌&&◌, ◌==◌, nat_le, nat_lt, inl, inr, List, [], ◌∷◌, ◌++◌, map, length, ℤ, Some, None, option_map, is_none, slice_index_or, refl, sym, ap, ◌∙◌, subst, arith}
use Rattle.std.specs.List.{flat_map}
use Rattle.std.proofs.lemmas.Bool.{cond-false}
use Rattle.sv_world.specs.Control.{is_in, last_writer}
use Rattle.sv_world.specs.Sets.{numbers_of}
use Rattle.sv_world.proofs.Members.{is_in-head, is_in-tail}
use Rattle.sv_world.proofs.Writers.{last_writer-writes}
use Rattle.sv_eval.specs.Serial.{serial_world}
use Rattle.sv_versions.specs.Held.{Held, read_below}
use Rattle.sv_wire.specs.declared.message.ObjectValue.{ObjectValue}
use Rattle.sv_journal.specs.declared.entry.Entry.{Entry}
use Rattle.sv_journal.specs.declared.entry.BriefReply.TheVariants as brief
use Rattle.sv_journal.specs.History.{Authored, accepted, actions_of, item_at, full_reply}
use Rattle.sv_journal.specs.Answer.{Rules}
use Rattle.sv_journal.specs.Serving.{Keeping, LegalFor, IsKeeping}
use Rattle.sv_client.specs.declared.trace.Event.{Event}
use Rattle.sv_client.specs.Traces.{held_of, head_held, with_items, with_reply, got}
use Rattle.sv_client.specs.Taking.{first_unheld}
use Rattle.law_system.specs.Fronts.{IsFront}
use Rattle.law_system.specs.Fits.{replies_in}
use Rattle.law_system.specs.Serial.{IsSerial, AreSerial, is_covered}
use Rattle.law_system.specs.Delivery.{Delivery, tellings_to, telling_in, tellings_got}
use Rattle.law_system.specs.Journals.{deliveries_of, ResultsAreSerial}
use Rattle.law_system.proofs.Histories.{IsEarlier, same, earlier-rest, earlier-served}
use Rattle.law_system.proofs.Covers.{covered-held, covered-found}
use Rattle.law_system.proofs.Serials.{serial-since}
use Rattle.law_system.proofs.Items.{actions_in, items-keep, items-have}
use Rattle.law_system.proofs.Relays.{Knows, IsBrought, brought-covered, seen-brought}
use Rattle.law_system.proofs.Tellings.{AreTaken, knows-taken, delivery-taken}
use Rattle.law_system.proofs.Replied.{tellings-got, tellings-replied}
use Rattle.law_system.proofs.Lawful.{IsLegalSeen, delivery_at, seen-shown, seen-lawful}
use Rattle.law_system.proofs.Induction.{plain-acts, well-after, results-part}

-- Of an object that is covered behind a position, the value read there is the serial one.
covered-read : (opening : List (List ℤ)) (A : List Authored) (held : List Held) (x n : ℕ) → AreSerial opening (actions_in A) held →
    is_covered x (last_writer (actions_in A) x (suc n)) (suc n) held ≡ true → read_below held x (suc n) ≡ Some (slice_index_or (serial_world opening (actions_in A) n) x [])
covered-read opening A held x n serial covered =
    let acts = actions_in A in
    let f = covered-found x (suc n) (IsSerial opening acts) (last_writer acts x (suc n)) held serial covered in
    let h = f.0 in
    let low : last_writer acts x (suc n) ≤ h.pos = f.1.1.0 in
    let high : h.pos < suc n = f.1.1.1.1.0 in
    ap (option_map (λ (k : Held). k.value)) f.1.0
    ∙ ap Some (f.1.1.1.1.1
    ∙ ap (λ (y : ℕ). slice_index_or (serial_world opening acts h.pos) y []) f.1.1.1.0
    ∙ sym (serial-since opening acts x n h.pos low (omega arith)))

-- What is served behind the items of a delivery is covered once they are taken.
brought-whole : (objects : ℕ) (A : List Authored) (ds : List Delivery) (d : Delivery) (held : List Held) (x k : ℕ) → Knows (actions_in A) ds d.session held →
    IsBrought objects (actions_in A) ds d k x →
    is_covered x (last_writer (actions_in A) x k) k (with_items (held ++ head_held d.commit d.head) (map (item_at A) d.positions)) ≡ true
brought-whole objects A ds d held x k known b =
    let acts = actions_in A in
    let j = last_writer acts x k in
    let heads = held ++ head_held d.commit d.head in
    let items = map (item_at A) d.positions in
    elim (brought-covered objects acts ds d held k x known b) [
      | inl c ↦ items-keep (λ (h : Held). h.object == x && (nat_le j h.pos && nat_lt h.pos k)) heads items c
      | inr w ↦ covered-held x j j k (with_items heads items) (items-have A heads d.positions j x w.0 (last_writer-writes acts x k w.1.0)) (omega arith) w.1.1
    ]

module _ (K : Keeping) (keeps : IsKeeping K) (r : Rules) (H : List Entry) (count : length r.world.values ≡ r.world.shape.objects) (legal : LegalFor K r H)
    (serial : ResultsAreSerial r.world.values (actions_of H) (K.kept H)) where
  abbrev A : List Authored
  A = accepted H

  -- Where a client has got all replies of a session before what is seen, and takes this, it reads each of the objects behind the position as it is in
  -- the serial world there.
  pub seen-whole : (e : Entry) (g : List Entry) → IsEarlier (e ∷ g) H → (t : List Event) → ((o : ℕ) → IsFront (got t o) (replies_in A H o)) →
      got t e.session ≡ replies_in A g e.session → (last commit : ℕ) (head : List ObjectValue) (positions : List ℕ) → e.reply ≡ brief.Seen last commit head positions →
      (seen : IsLegalSeen K r e g last commit head positions) → (x : ℕ) → is_in x (numbers_of seen.objects) ≡ true →
      read_below (with_reply (held_of t) (full_reply A (brief.Seen last commit head positions))) x (suc last) ≡ Some (slice_index_or (serial_world r.world.values (actions_of H) last) x [])
  seen-whole e g b t fronts all_got last commit head positions is seen x m =
      let objects = r.world.shape.objects in
      let opening = r.world.values in
      let acts = actions_of H in
      let earlier : IsEarlier g H = earlier-rest g e H b in
      let legal_before : LegalFor K r g = earlier-served K r g H earlier legal in
      let ds = deliveries_of g in
      let d = delivery_at K keeps r H e g commit head positions in
      let held = held_of t in
      let plain = plain-acts K keeps r H count legal in
      let well = well-after K keeps r H count legal H same serial t fronts in
      let told : tellings_got t e.session ≡ tellings_to A ds e.session =
      tellings-got t e.session ∙ ap (flat_map telling_in) all_got ∙ sym (tellings-replied K r A g legal_before e.session) in
      let known : Knows acts ds e.session held = knows-taken A held e.session ds (subst (AreTaken held) told (well.taken e.session)) in
      let lawful = seen-lawful K keeps r H e g last commit head positions b legal_before (results-part K keeps r H count legal g H earlier serial) seen in
      let shown = seen-shown K keeps r H e g last commit head positions b legal_before seen in
      let taken = delivery-taken objects opening count A plain held ds d well.serial known lawful in
      let brought : IsBrought objects acts ds d (suc last) x =
      subst (λ (n : ℕ). IsBrought objects acts ds d (suc n) x) shown.position
      (seen-brought objects acts plain ds d lawful.count shown.shown x (ap (is_in x) shown.objects ∙ m)) in
      covered-read opening A (with_items (held ++ head_held commit head) (map (item_at A) positions)) x last taken.serial (brought-whole objects A ds d held x (suc last) known brought)

-- Where each of some objects is read, none is missing.
pub none-unheld : (held : List Held) (pos : ℕ) (f : ℕ → List ℤ) (xs : List ℕ) → ((x : ℕ) → is_in x xs ≡ true → read_below held x pos ≡ Some (f x)) → first_unheld held pos xs ≡ None
none-unheld held pos f [] each = refl
none-unheld held pos f (x ∷ xs) each =
    cond-false (is_none (read_below held x pos)) (Some x) (first_unheld held pos xs) (ap is_none (each x (is_in-head x xs)))
    ∙ none-unheld held pos f xs (λ y m. each y (is_in-tail y x xs m))

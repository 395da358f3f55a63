-- The frames that a session's loop owes are those of its replies over the whole journal.
use Rattle.std.proofs.Common.{◌≡◌, ℕ, ◌==◌, List, [], ◌∷◌, ◌++◌, map, reverse, length, refl, sym, ap, subst, ◌∙◌}
use Rattle.std.specs.Prelude.{All}
use Rattle.std.specs.List.{AllByRecursion}
use Rattle.std.proofs.lemmas.List.{reverse-reverse}
use Rattle.std.proofs.lemmas.List.Elements.{All-filter, recursion_from_All, All-from_recursion}
use mathlib.Core.List.{IsPrefix}
use Rattle.sv_frame.specs.Frames.{frames_of}
use Rattle.sv_wire.specs.declared.message.Reply.{Reply}
use Rattle.sv_wire.specs.Spelling.{reply_bytes}
use Rattle.sv_journal.specs.declared.entry.Entry.{Entry}
use Rattle.sv_journal.specs.History.{accepted, full_reply}
use Rattle.sv_journal.specs.Answer.{Rules, Legal}
use Rattle.sv_journal.specs.Text.{NamesAccepted, RelaysNameAccepted}
use Rattle.sv_journal.specs.Laws.{FullRepliesStay, LegalRelaysNameAccepted}
use Rattle.sv_session.specs.Requests.{reply_payload, due_frames}
use Rattle.sv_session.specs.Rounds.{AllNameAccepted}
use Rattle.sv_session.proofs.Replies.{frames_on}
use Rattle.law_system.proofs.Every.{each-left}
use Rattle.law_traffic.specs.Traffic.{reply_frames}
use Rattle.law_traffic.proofs.Ours.{mine}

-- the replies of entries in full, over a journal
abbrev pub full_over : List Entry → List Entry → List Reply
full_over journal entries = map (λ (e : Entry). full_reply (accepted (reverse journal)) e.reply) entries

payloads_over : (journal entries : List Entry) → map (reply_payload journal) entries ≡ map reply_bytes (full_over journal entries)
payloads_over journal [] = refl
payloads_over journal (e ∷ entries) = ap (λ l. reply_payload journal e ∷ l) (payloads_over journal entries)

frames_over : (journal entries : List Entry) → due_frames journal entries ≡ reply_frames (full_over journal entries)
unfolding due_frames reply_frames
frames_over journal entries = ap frames_of (payloads_over journal entries)

-- the replies of a legal history name accepted actions of it
named_in : LegalRelaysNameAccepted → (r : Rules) (seen entries more : List Entry) (n : ℕ) → Legal r (reverse seen) → mine n seen ≡ entries ++ more → AllNameAccepted seen entries
named_in law r seen entries more n legal just =
    let P : Entry → Type 0 = λ (e : Entry). NamesAccepted (length (accepted (reverse seen))) e.reply in
    let all : All P seen = subst RelaysNameAccepted (reverse-reverse seen) (law r (reverse seen) legal) in
    let ours : All P (mine n seen) = All-filter (λ (e : Entry). e.session == n) P seen all in
    All-from_recursion P entries (each-left P entries more (subst (AllByRecursion P) just (recursion_from_All P (mine n seen) ours)))

pub due_is : FullRepliesStay → LegalRelaysNameAccepted → (r : Rules) (seen journal entries more : List Entry) (n : ℕ) → Legal r (reverse seen) → mine n seen ≡ entries ++ more → IsPrefix seen journal →
    due_frames seen entries ≡ reply_frames (full_over journal entries)
due_is stay name r seen journal entries more n legal just front =
    sym (frames_on stay seen journal entries front (named_in name r seen entries more n legal just)) ∙ frames_over journal entries

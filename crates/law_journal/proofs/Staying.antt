-- What a history has stays in a longer one.
use Rattle.std.proofs.Common.{◌≡◌, ℕ, zero, suc, ◌+◌, ◌<◌, ◌≤◌, true, ℤ, List, [], ◌∷◌, ◌++◌, map, length, Option, Some, None, is_some, refl, sym, ap, ◌∙◌, arith, true≢false, length-append}
use Rattle.std.specs.Prelude.{if◌then◌else◌, unwrap_or}
use Rattle.std.proofs.lemmas.List.{get_or_append_left, length-map, map-append}
use Rattle.sv_world.specs.declared.action.Action.{Action}
use Rattle.sv_world.specs.Control.{blank, action_at}
use Rattle.sv_world.specs.Sets.{write_set}
use Rattle.sv_eval.specs.Serial.{put_all}
use Rattle.sv_journal.specs.declared.entry.Entry.{Entry}
use Rattle.sv_journal.specs.History.{either, is_relay, is_noted, client_of, outcomes_of, Authored, new_action, accepted, actions_of, reports, result_at, commit_of, installed}
use Rattle.sv_journal.proofs.Stays.{accepted_grows}
use Rattle.law_journal.specs.Committed.{AllHaveResults, JournalsKeepWhatTheyHave}
use Rattle.law_journal.proofs.Greatest.{all-to-commit, commit-greatest}

-- What an entry adds to the accepted actions.
abbrev pub added : Entry → List Entry → List Authored
added e h = if is_relay e.reply then new_action (client_of h e.session) (λ k. suc (length (outcomes_of h k))) e.request else []

result-stays : (later earlier : List Entry) (p : ℕ) (values : List (List ℤ)) → result_at earlier p ≡ Some values → result_at (later ++ earlier) p ≡ Some values
result-stays [] h p values is = is
result-stays (e ∷ later) h p values is =
    ap (λ (o : Option (List (List ℤ))). either o (if is_noted e.reply then reports p e.request else None)) (result-stays later h p values is)

-- What has a result has the same one later.
result-same : (later earlier : List Entry) (p : ℕ) → is_some (result_at earlier p) ≡ true → result_at (later ++ earlier) p ≡ result_at earlier p
result-same later h p some = go (result_at h p) refl some
  where
    go : (o : Option (List (List ℤ))) → result_at h p ≡ o → is_some o ≡ true → result_at (later ++ h) p ≡ result_at h p
    go None is e = absurd (true≢false (sym e))
    go (Some values) is e = result-stays later h p values is ∙ sym is

count-stays : (later earlier : List Entry) → length (accepted earlier) ≤ length (accepted (later ++ earlier))
count-stays later h =
    let more = accepted_grows later h in
    let all : length (accepted (later ++ h)) ≡ length (accepted h) + length more.0 =
    ap (λ (A : List Authored). length A) more.1 ∙ length-append (accepted h) more.0 in
    omega arith

results-stay : (later earlier : List Entry) → AllHaveResults (later ++ earlier) (commit_of earlier)
results-stay later h p low high =
    let here = all-to-commit h p low high in
    let within : p ≤ length (accepted h) = here.0 in
    let more : length (accepted h) ≤ length (accepted (later ++ h)) = count-stays later h in
    (omega arith, ap (λ (o : Option (List (List ℤ))). is_some o) (result-same later h p here.1) ∙ here.1)

-- ---- Values

abbrev acts : List Authored → List Action
acts A = map (λ (a : Authored). a.action) A

action-stays : (later earlier : List Entry) (n : ℕ) → n < length (accepted earlier) → action_at (actions_of (later ++ earlier)) (suc n) ≡ action_at (actions_of earlier) (suc n)
action-stays later h n low =
    let more = accepted_grows later h in
    let count : length (actions_of h) ≡ length (accepted h) = length-map (accepted h) (λ (a : Authored). a.action) in
    ap (λ (A : List Action). action_at A (suc n)) (ap acts more.1 ∙ map-append (λ (a : Authored). a.action) (accepted h) more.0)
    ∙ get_or_append_left (actions_of h) (acts more.0) blank n (omega arith)

abbrev putting : List (List ℤ) → Action → Option (List (List ℤ)) → List (List ℤ)
putting world a o = put_all world (write_set a) (unwrap_or o [])

values-stay : (later earlier : List Entry) (opening : List (List ℤ)) (p : ℕ) → p ≤ commit_of earlier → installed opening (later ++ earlier) p ≡ installed opening earlier p
values-stay later h opening zero low = refl
values-stay later h opening (suc p) low =
    let here = all-to-commit h (suc p) (omega arith) low in
    let within : suc p ≤ length (accepted h) = here.0 in
    let g = later ++ h in
    ap (λ (world : List (List ℤ)). putting world (action_at (actions_of g) (suc p)) (result_at g (suc p))) (values-stay later h opening p (omega arith))
    ∙ ap (λ (a : Action). putting (installed opening h p) a (result_at g (suc p))) (action-stays later h p (omega arith))
    ∙ ap (λ (o : Option (List (List ℤ))). putting (installed opening h p) (action_at (actions_of h) (suc p)) o) (result-same later h (suc p) here.1)

pub journals_keep : JournalsKeepWhatTheyHave
journals_keep later h = record {
  actions = accepted_grows later h;
  results = result-stays later h;
  commit = commit-greatest (later ++ h) (commit_of h) (results-stay later h);
  values = values-stay later h;
}

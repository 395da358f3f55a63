-- What `serve` prints of a legal journal is right, where each request can be told. A history has the latest entry first.
use Rattle.std.proofs.Common.{◌≡◌, inl, inr, ℕ, suc, ◌<◌, ◌≤◌, true, ◌&&◌, eqb, eq-eqb, List, [], ◌∷◌, reverse, refl, arith}
use Rattle.std.specs.Prelude.{All}
use Rattle.std.specs.List.{AllByRecursion}
use Rattle.std.proofs.lemmas.Bool.{cases_Bool, cond_both}
use Rattle.std.proofs.lemmas.List.Elements.{recursion_from_All}
use Rattle.sv_journal.specs.declared.entry.Entry.{Entry}
use Rattle.sv_journal.specs.Answer.{Legal}
use Rattle.sv_journal.specs.Sessions.{is_end, is_ended}
use Rattle.sv_scenario.specs.declared.scenario.Scenario.{Scenario}
use Rattle.sv_scenario.specs.Sessions.{session_count}
use Rattle.law_system.specs.Records.{rules_of, ends_in}
use Rattle.sv_lines.specs.Told.{IsTold}
use Rattle.sv_check.specs.Bare.{IsBare, bare_text}
use Rattle.sv_check.specs.Parts.{AreEntries}
use Rattle.sv_check.proofs.Serving.{some_ended}

no_fewer : (s : ℕ) (e : Entry) (h : List Entry) → ends_in h s ≤ ends_in (e ∷ h) s
no_fewer s e h =
    cond_both (eqb e.session s && is_end e.request) (suc (ends_in h s)) (ends_in h s) (λ (n : ℕ). ends_in h s ≤ n) (λ t. omega arith) (λ t. omega arith)

one_more : (e : Entry) (h : List Entry) → is_end e.request ≡ true → ends_in (e ∷ h) e.session ≡ suc (ends_in h e.session)
one_more e h t = let here = eq-eqb e.session e.session refl in rw (here, t) refl

module _ (scenario : Scenario) where
  right_entries : (h : List Entry) → Legal (rules_of scenario) h → AllByRecursion (λ (e : Entry). e.session < session_count scenario) h →
      AllByRecursion (λ (e : Entry). IsTold scenario.world.shape e.request) h → ((s : ℕ) → s < session_count scenario → ends_in h s ≤ 1) → AreEntries scenario h
  right_entries [] l s t once = tt
  right_entries (e ∷ h) l s t once = (
    record {
      session = s.0;
      told = t.0;
      once = λ ends.
          elim (cases_Bool (is_ended h e.session)) [
            | inl x ↦ (let some = some_ended h e.session x in let plus = one_more e h ends in let most = once e.session s.0 in absurd (omega (arith, some, plus, most)))
            | inr x ↦ x
          ];
      reply = l.0;
    },
    right_entries h l.1 s.1 t.1 (λ n low. let most = once n low in let more = no_fewer n e h in omega (arith, most, more)),
  )

  pub served_right : (h : List Entry) → Legal (rules_of scenario) h → All (λ (e : Entry). e.session < session_count scenario) h →
      ((s : ℕ) → s < session_count scenario → ends_in h s ≡ 1) → All (λ (e : Entry). IsTold scenario.world.shape e.request) h → IsBare scenario (bare_text scenario.world.shape (reverse h))
  served_right h legal sessions ended told = (
    h,
    record {
      journal = record {
        entries = right_entries h legal (recursion_from_All (λ (e : Entry). e.session < session_count scenario) h sessions)
            (recursion_from_All (λ (e : Entry). IsTold scenario.world.shape e.request) h told) (λ s low. let one = ended s low in omega (arith, one));
        ended = ended;
      };
      text_is = refl;
    },
  )

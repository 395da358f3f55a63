-- The entries of one session in a journal: their requests, their replies and their End.
-- A journal has its entries in order here, a history has the latest first.
use Rattle.std.proofs.Common.{◌≡◌, ℕ, suc, Bool, true, false, cond, ◌&&◌, ◌||◌, not, ◌==◌, List, [], ◌∷◌, ◌++◌, map, reverse, refl, sym, ap, subst, ◌∙◌, append-nil, eqb-true, eq-eqb, true≢false}
use Rattle.std.specs.List.{AllByRecursion}
use Rattle.std.proofs.lemmas.Bool.{cond-true, cond-false, and_from, not_from_false}
use Rattle.std.proofs.lemmas.List.{map-append, reverse-append}
use Rattle.std.proofs.lemmas.List.Elements.{filter-append, filter_passes, recursion_from_All}
use mathlib.Core.Bool.{and-false}
use Rattle.sv_wire.specs.declared.message.Request.{Request}
use Rattle.sv_wire.specs.declared.message.Request.TheVariants as requests
use Rattle.sv_wire.specs.declared.message.Reply.{Reply}
use Rattle.sv_journal.specs.declared.entry.Entry.{Entry}
use Rattle.sv_journal.specs.declared.entry.BriefReply.TheVariants as brief
use Rattle.sv_journal.specs.History.{Authored, full_reply}
use Rattle.sv_journal.specs.Sessions.{is_end, is_ended}
use Rattle.sv_journal.specs.History.{entry_of}
use Rattle.sv_lock.specs.Histories.{entries_of}
use Rattle.law_system.specs.Fits.{requests_in, replies_in, IsEndLast}
use Rattle.law_system.specs.Records.{ends_in}
use Rattle.law_system.proofs.Every.{each-left, each-reverse}

abbrev pub mine : ℕ → List Entry → List Entry
mine s h = entries_of (λ (e : Entry). e.session) s h

-- ---- Only the session's own entries count

mine_reversed : (s : ℕ) (j : List Entry) → mine s (reverse j) ≡ reverse (mine s j)
mine_reversed s [] = refl
mine_reversed s (e ∷ j) = ap (mine s) (reverse-append (e ∷ []) j) ∙ (filter-append (λ (x : Entry). x.session == s) (reverse j) (e ∷ []) ∙ go (e.session == s) (mine_reversed s j))
  where
    go : (b : Bool) → mine s (reverse j) ≡ reverse (mine s j) → mine s (reverse j) ++ cond b (e ∷ []) [] ≡ reverse (cond b (e ∷ mine s j) (mine s j))
    go true before = ap (λ (l : List Entry). l ++ e ∷ []) before ∙ sym (reverse-append (e ∷ []) (mine s j))
    go false before = append-nil (mine s (reverse j)) ∙ before

requests_mine : (h : List Entry) (s : ℕ) → requests_in h s ≡ requests_in (mine s h) s
requests_mine [] s = refl
requests_mine (e ∷ h) s = go (e.session == s) refl (requests_mine h s)
  where
    go : (b : Bool) → (e.session == s) ≡ b → requests_in h s ≡ requests_in (mine s h) s →
        cond (b && not (is_end e.request)) (requests_in h s ++ e.request ∷ []) (requests_in h s) ≡ requests_in (cond b (e ∷ mine s h) (mine s h)) s
    go true is before =
        ap (λ (l : List Request). cond (not (is_end e.request)) (l ++ e.request ∷ []) l) before
        ∙ sym (ap (λ (b : Bool). cond (b && not (is_end e.request)) (requests_in (mine s h) s ++ e.request ∷ []) (requests_in (mine s h) s)) is)
    go false is before = before

replies_mine : (A : List Authored) (h : List Entry) (s : ℕ) → replies_in A h s ≡ replies_in A (mine s h) s
replies_mine A [] s = refl
replies_mine A (e ∷ h) s = go (e.session == s) refl (replies_mine A h s)
  where
    go : (b : Bool) → (e.session == s) ≡ b → replies_in A h s ≡ replies_in A (mine s h) s →
        cond (b && not (is_end e.request)) (replies_in A h s ++ full_reply A e.reply ∷ []) (replies_in A h s) ≡ replies_in A (cond b (e ∷ mine s h) (mine s h)) s
    go true is before =
        ap (λ (l : List Reply). cond (not (is_end e.request)) (l ++ full_reply A e.reply ∷ []) l) before
        ∙ sym (ap (λ (b : Bool). cond (b && not (is_end e.request)) (replies_in A (mine s h) s ++ full_reply A e.reply ∷ []) (replies_in A (mine s h) s)) is)
    go false is before = before

ends_mine : (h : List Entry) (s : ℕ) → ends_in h s ≡ ends_in (mine s h) s
ends_mine [] s = refl
ends_mine (e ∷ h) s = go (e.session == s) refl (ends_mine h s)
  where
    go : (b : Bool) → (e.session == s) ≡ b → ends_in h s ≡ ends_in (mine s h) s → cond (b && is_end e.request) (suc (ends_in h s)) (ends_in h s) ≡ ends_in (cond b (e ∷ mine s h) (mine s h)) s
    go true is before =
        ap (λ (n : ℕ). cond (is_end e.request) (suc n) n) before
        ∙ sym (ap (λ (b : Bool). cond (b && is_end e.request) (suc (ends_in (mine s h) s)) (ends_in (mine s h) s)) is)
    go false is before = before

ended_mine : (h : List Entry) (s : ℕ) → is_ended h s ≡ is_ended (mine s h) s
ended_mine [] s = refl
ended_mine (e ∷ h) s = go (e.session == s) refl (ended_mine h s)
  where
    go : (b : Bool) → (e.session == s) ≡ b → is_ended h s ≡ is_ended (mine s h) s → ((b && is_end e.request) || is_ended h s) ≡ is_ended (cond b (e ∷ mine s h) (mine s h)) s
    go true is before = ap (λ (b : Bool). is_end e.request || b) before ∙ sym (ap (λ (b : Bool). (b && is_end e.request) || is_ended (mine s h) s) is)
    go false is before = before

last_mine : (h : List Entry) (s : ℕ) → IsEndLast (mine s h) s → IsEndLast h s
last_mine [] s l = tt
last_mine (e ∷ h) s l = go (e.session == s) refl l (last_mine h s)
  where
    go : (b : Bool) → (e.session == s) ≡ b → IsEndLast (cond b (e ∷ mine s h) (mine s h)) s → (IsEndLast (mine s h) s → IsEndLast h s) → IsEndLast (e ∷ h) s
    go true is l rest = (λ same. ended_mine h s ∙ l.0 same, rest l.1)
    go false is l rest = (λ same. absurd (true≢false (sym (eq-eqb e.session s same) ∙ is)), rest l)

-- ---- Entries of the session, none of them an End

abbrev pub IsOurs : ℕ → Entry → Type 0
IsOurs s e = (e.session ≡ s) × (is_end e.request ≡ false)

ours_true : (s : ℕ) (e : Entry) → IsOurs s e → (e.session == s && not (is_end e.request)) ≡ true
ours_true s e o = and_from (e.session == s) (not (is_end e.request)) (eq-eqb e.session s o.0) (not_from_false (is_end e.request) o.1)

ours_false : (s : ℕ) (e : Entry) → IsOurs s e → (e.session == s && is_end e.request) ≡ false
ours_false s e o = ap (λ (b : Bool). e.session == s && b) o.1 ∙ and-false (e.session == s)

requests_ours : (s : ℕ) (h : List Entry) → AllByRecursion (IsOurs s) h → requests_in h s ≡ reverse (map (λ (e : Entry). e.request) h)
requests_ours s [] all = refl
requests_ours s (e ∷ h) all =
    cond-true (e.session == s && not (is_end e.request)) (requests_in h s ++ e.request ∷ []) (requests_in h s) (ours_true s e all.0)
    ∙ (ap (λ (l : List Request). l ++ e.request ∷ []) (requests_ours s h all.1) ∙ sym (reverse-append (e.request ∷ []) (map (λ (d : Entry). d.request) h)))

replies_ours : (A : List Authored) (s : ℕ) (h : List Entry) → AllByRecursion (IsOurs s) h → replies_in A h s ≡ reverse (map (λ (e : Entry). full_reply A e.reply) h)
replies_ours A s [] all = refl
replies_ours A s (e ∷ h) all =
    cond-true (e.session == s && not (is_end e.request)) (replies_in A h s ++ full_reply A e.reply ∷ []) (replies_in A h s) (ours_true s e all.0)
    ∙ (ap (λ (l : List Reply). l ++ full_reply A e.reply ∷ []) (replies_ours A s h all.1) ∙ sym (reverse-append (full_reply A e.reply ∷ []) (map (λ (d : Entry). full_reply A d.reply) h)))

ends_ours : (s : ℕ) (h : List Entry) → AllByRecursion (IsOurs s) h → ends_in h s ≡ 0
ends_ours s [] all = refl
ends_ours s (e ∷ h) all = cond-false (e.session == s && is_end e.request) (suc (ends_in h s)) (ends_in h s) (ours_false s e all.0) ∙ ends_ours s h all.1

ended_ours : (s : ℕ) (h : List Entry) → AllByRecursion (IsOurs s) h → is_ended h s ≡ false
ended_ours s [] all = refl
ended_ours s (e ∷ h) all = ap (λ (b : Bool). b || is_ended h s) (ours_false s e all.0) ∙ ended_ours s h all.1

last_ours : (s : ℕ) (h : List Entry) → AllByRecursion (IsOurs s) h → IsEndLast h s
last_ours s [] all = tt
last_ours s (e ∷ h) all = (λ same. ended_ours s h all.1, last_ours s h all.1)

map_reversed : {X Y : Type 0} (f : X → Y) (xs : List X) → reverse (map f (reverse xs)) ≡ map f xs
map_reversed f [] = refl
map_reversed f (x ∷ xs) =
    ap (λ l. reverse (map f l)) (reverse-append (x ∷ []) xs)
    ∙ (ap reverse (map-append f (reverse xs) (x ∷ [])) ∙ (reverse-append (map f (reverse xs)) (f x ∷ []) ∙ ap (λ l. f x ∷ l) (map_reversed f xs)))

-- ---- A session that had its End

pub all_ours : (s : ℕ) (j answered : List Entry) (end : Entry) → mine s j ≡ answered ++ end ∷ [] → AllByRecursion (λ (e : Entry). is_end e.request ≡ false) answered → AllByRecursion (IsOurs s) answered
all_ours s j answered end just others =
    let passes = recursion_from_All (λ (e : Entry). (e.session == s) ≡ true) (mine s j) (filter_passes (λ (e : Entry). e.session == s) j) in
    both answered (each-left (λ (e : Entry). (e.session == s) ≡ true) answered (end ∷ []) (subst (AllByRecursion (λ (e : Entry). (e.session == s) ≡ true)) just passes)) others
  where
    both : (xs : List Entry) → AllByRecursion (λ (e : Entry). (e.session == s) ≡ true) xs → AllByRecursion (λ (e : Entry). is_end e.request ≡ false) xs → AllByRecursion (IsOurs s) xs
    both [] a b = tt
    both (e ∷ xs) a b = ((eqb-true e.session s a.0, b.0), both xs a.1 b.1)

module _ (s : ℕ) (j answered : List Entry) (just : mine s j ≡ answered ++ entry_of s requests.End brief.Bye ∷ []) (others : AllByRecursion (λ (e : Entry). is_end e.request ≡ false) answered) where
  abbrev end : Entry
  end = entry_of s requests.End brief.Bye

  ours : AllByRecursion (IsOurs s) (reverse answered)
  ours = each-reverse (IsOurs s) answered (all_ours s j answered end just others)

  latest : mine s (reverse j) ≡ end ∷ reverse answered
  latest = mine_reversed s j ∙ (ap reverse just ∙ reverse-append answered (end ∷ []))

  pub requests_are : requests_in (reverse j) s ≡ map (λ (e : Entry). e.request) answered
  requests_are =
      requests_mine (reverse j) s
      ∙ (ap (λ (h : List Entry). requests_in h s) latest
      ∙ (cond-false (s == s && false) (requests_in (reverse answered) s ++ requests.End ∷ []) (requests_in (reverse answered) s) (and-false (s == s))
      ∙ (requests_ours s (reverse answered) ours ∙ map_reversed (λ (e : Entry). e.request) answered)))

  pub replies_are : (A : List Authored) → replies_in A (reverse j) s ≡ map (λ (e : Entry). full_reply A e.reply) answered
  replies_are A =
      replies_mine A (reverse j) s
      ∙ (ap (λ (h : List Entry). replies_in A h s) latest
      ∙ (cond-false (s == s && false) (replies_in A (reverse answered) s ++ full_reply A brief.Bye ∷ []) (replies_in A (reverse answered) s) (and-false (s == s))
      ∙ (replies_ours A s (reverse answered) ours ∙ map_reversed (λ (e : Entry). full_reply A e.reply) answered)))

  pub one_end : ends_in (reverse j) s ≡ 1
  one_end =
      ends_mine (reverse j) s
      ∙ (ap (λ (h : List Entry). ends_in h s) latest
      ∙ (cond-true (s == s && true) (suc (ends_in (reverse answered) s)) (ends_in (reverse answered) s) (and_from (s == s) true (eq-eqb s s refl) refl) ∙ ap suc (ends_ours s (reverse answered) ours)))

  pub end_is_last : IsEndLast (reverse j) s
  end_is_last = last_mine (reverse j) s (subst (λ (h : List Entry). IsEndLast h s) (sym latest) (λ same. ended_ours s (reverse answered) ours, last_ours s (reverse answered) ours))

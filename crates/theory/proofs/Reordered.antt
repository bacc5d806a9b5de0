-- Sources that are read as the same table get the same replies: a reply to the one is a reply to the other (`verdict_to` and so on),
-- and two replies that meet a contract are equal, with what they leave in lent memory (`verdict_same` and so on). With `perm_alike` this
-- is "Reordering the rows changes no reply", of whatever was read; `Texts` has it of texts.
use Rattle.std.specs.Prelude.{◌≡◌, List, ◌++◌, map, ℕ, length, drop, Result, Ok}
use Rattle.std.proofs.Common.{sym, ap, subst, ◌∙◌}
use Rattle.rules.specs.declared.Row.{Row}
use Rattle.rules.specs.declared.Refusal.{Refusal}
use Rattle.rules.specs.declared.Verdict.{Verdict}
use Rattle.rules.specs.declared.ScheduleReply.{ScheduleReply}
use Rattle.rules.specs.Table.{omax, hyper}
use Rattle.rules.specs.Sources.{Source}
use Rattle.rules.specs.Checks.{check, refusal_of, policy_wrong, too_few, slots_wrong, slots_refusal, ids_refusal}
use Rattle.rules.specs.Policies.{System, policy, system}
use Rattle.rules.specs.Slots.{Choice, stated}
use Rattle.rules.specs.AsRun.{listed}
use Rattle.rules.specs.Verdicts.{tasks_of, system_of, Decides, DecidesOf, Replies, VerdictIs, Hold, Leaves, ResponsesAre}
use Rattle.rules.specs.Schedules.{Writes, ScheduleIs, AsRunIs}
use Rattle.rules.specs.Written.{Puts, ids_of, IdsAre}
use Rattle.basics.specs.Cases.{eq_case}
use Rattle.reordering.specs.Passed.{check_none, lent_none}
use Rattle.reordering.specs.Canonical.{canonical_length}
use Rattle.reordering.specs.Alike.{Alike}
use Rattle.theory.proofs.Replies.{verdict_one, responses_one}
use Rattle.theory.proofs.ScheduleReplies.{writes_one}
use Rattle.theory.specs.WriteReplies.{puts_one}

module _ (s t : Source) (alike : Alike s t) where
  -- A REPLY TO s IS ONE TO t, where it is refused alike
  replies : (f : Refusal) (p a : ℕ) (r : Verdict) → (f.number ≡ 0 → (refusal_of s).number ≡ 0) → Replies f (DecidesOf p a s) r → Replies f (DecidesOf p a t) r
  replies f p a r fine u = record {
    refused = u.refused;
    decided = λ e. subst (λ (ws : List Row). Decides (system (policy p) ws) (omax ws) (hyper ws) a r) (alike.tasks (fine e)) (u.decided e);
  }

  leaves : (f : Refusal) (p a : ℕ) (r : Verdict) (before after : List ℕ) → (f.number ≡ 0 → (refusal_of s).number ≡ 0) → Replies f (DecidesOf p a s) r
      → Leaves (Hold (system_of p s) before after) r before after → Leaves (Hold (system_of p t) before after) r before after
  leaves f p a r before after fine u l = eq_case f.number 0
      (λ e. subst (λ (ws : List Row). Leaves (Hold (system (policy p) ws) before after) r before after) (alike.tasks (fine e)) l)
      (λ e. rw (u.refused e) (rw (u.refused e) at l))

  pub verdict_to : (p a : ℕ) (r : Verdict) → VerdictIs p a s r → VerdictIs p a t r
  verdict_to p a r u = subst (λ (g : Refusal). Replies (check 1 (policy_wrong p) g) (DecidesOf p a t) r) alike.refusal
      (replies (check 1 (policy_wrong p) (refusal_of s)) p a r (λ e. (check_none 0 (policy_wrong p) _ e).1) u)

  pub responses_to : (p a : ℕ) (before after : List ℕ) (r : Verdict) → ResponsesAre p a s before after r → ResponsesAre p a t before after r
  responses_to p a before after r u = record {
    reply = subst (λ (g : Refusal). Replies (check 1 (policy_wrong p) (check 2 (too_few (length before)) g)) (DecidesOf p a t) r) alike.refusal
        (replies _ p a r (λ e. (lent_none p (too_few (length before)) s e).1) u.reply);
    buffer = leaves _ p a r before after (λ e. (lent_none p (too_few (length before)) s e).1) u.reply u.buffer;
  }

  -- schedule and as run, whose choices are made of the system
  slots_to : (c : System → ℕ → Choice) (p : ℕ) (before after : List ℕ) (r : ScheduleReply)
      → Writes (slots_refusal p (length before) s) (system_of p s) (c (system_of p s)) before after r
      → Writes (slots_refusal p (length before) t) (system_of p t) (c (system_of p t)) before after r
  slots_to c p before after r u =
      subst (λ (g : Refusal). Writes (check 1 (policy_wrong p) (check 2 (slots_wrong (length before)) g)) (system_of p t) (c (system_of p t)) before after r) alike.refusal (record {
        refused = u.refused;
        filled = λ e. (subst (λ (ws : List Row). Writes (slots_refusal p (length before) s) (system (policy p) ws) (c (system (policy p) ws)) before after r)
            (alike.tasks (lent_none p (slots_wrong (length before)) s e).1) u).filled e;
      })

  pub as_run_to : (xs zs : List ℕ) (p : ℕ) (before after : List ℕ) (r : ScheduleReply) → AsRunIs p s xs zs before after r → AsRunIs p t xs zs before after r
  as_run_to xs zs = slots_to (λ y. listed y xs zs)

  pub schedule_to : (p : ℕ) (before after : List ℕ) (r : ScheduleReply) → ScheduleIs p s before after r → ScheduleIs p t before after r
  schedule_to = slots_to stated

  -- ids, of as many rows as there are tasks
  pub ids_to : (before after : List ℕ) (r : Result ℕ Refusal) → IdsAre s before after r → IdsAre t before after r
  ids_to before after r u =
      subst (λ (g : Refusal). Puts (check 2 (too_few (length before)) g) (length t.rows) (ids_of t) before after r) alike.refusal (record {
        refused = u.refused;
        written = λ e.
            let same = alike.tasks (check_none 1 (too_few (length before)) (refusal_of s) e).1 in
            let ids : List Row → List ℕ = λ ws. map (λ (w : Row). w.id) ws in
            let rows : length s.rows ≡ length t.rows =
            sym (canonical_length s.rows) ∙ ap (λ (ws : List Row). length ws) same ∙ canonical_length t.rows in
            subst (λ (n : ℕ). (r ≡ Ok n) × (after ≡ ids_of t ++ drop (length (ids_of t)) before)) rows
            (subst (λ (ws : List Row). (r ≡ Ok (length s.rows)) × (after ≡ ids ws ++ drop (length (ids ws)) before)) same (u.written e));
      })

  -- SO THE REPLIES ARE EQUAL, with what they leave in lent memory
  pub verdict_same : (p a : ℕ) (r q : Verdict) → VerdictIs p a s r → VerdictIs p a t q → r ≡ q
  verdict_same p a r q u v = verdict_one _ (system_of p t) (omax (tasks_of t)) (hyper (tasks_of t)) a r q (verdict_to p a r u) v

  pub responses_same : (p a : ℕ) (before x z : List ℕ) (r q : Verdict) → ResponsesAre p a s before x r → ResponsesAre p a t before z q → (r ≡ q) × (x ≡ z)
  responses_same p a before x z r q u v = responses_one p a t before x z r q (responses_to p a before x r u) v

  pub schedule_same : (p : ℕ) (before x z : List ℕ) (r q : ScheduleReply) → ScheduleIs p s before x r → ScheduleIs p t before z q → (r ≡ q) × (x ≡ z)
  schedule_same p before x z r q u v = writes_one _ (system_of p t) (stated (system_of p t)) before x z r q (schedule_to p before x r u) v

  pub as_run_same : (xs zs : List ℕ) (p : ℕ) (before x z : List ℕ) (r q : ScheduleReply) → AsRunIs p s xs zs before x r → AsRunIs p t xs zs before z q → (r ≡ q) × (x ≡ z)
  as_run_same xs zs p before x z r q u v = writes_one _ (system_of p t) (listed (system_of p t) xs zs) before x z r q (as_run_to xs zs p before x r u) v

  pub ids_same : (before x z : List ℕ) (r q : Result ℕ Refusal) → IdsAre s before x r → IdsAre t before z q → (r ≡ q) × (x ≡ z)
  ids_same before x z r q u v = puts_one (ids_refusal (length before) t) (length t.rows) (ids_of t) before x z r q (ids_to before x r u) v

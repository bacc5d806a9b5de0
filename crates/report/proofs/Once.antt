-- Two reports of one text are equal, with the bytes that they leave: the contract says all.
use mathlib.Core.Path.{◌≡◌, sym, ap, ◌∙◌}
use mathlib.Core.List.{List}
use Prim.Native.Nat.{ℕ}
use lib.ListN.{length}
use Rattle.rules.specs.Table.{omax, hyper}
use Rattle.rules.specs.Sources.{text_source}
use Rattle.rules.specs.Checks.{verdict_refusal}
use Rattle.rules.specs.Verdicts.{tasks_of, system_of}
use Rattle.basics.specs.Cases.{le_case}
use Rattle.theory.proofs.Replies.{verdict_one}
use Rattle.report.specs.Lines.{allowance, line_of}
use Rattle.report.specs.Reports.{Line, FourLines, Puts, Reports}

line_once : {p : ℕ} {text x z : List ℕ} → Line p text x → Line p text z → x ≡ z
line_once {p} {text} a b =
    let s = text_source text in
    let e = verdict_one (verdict_refusal p s) (system_of p s) (omax (tasks_of s)) (hyper (tasks_of s)) allowance
    a.reply b.reply a.right b.right in
    a.bytes ∙ ap (line_of p) e ∙ sym b.bytes

four_once : {text x z : List ℕ} → FourLines text x → FourLines text z → x ≡ z
four_once a b =
    a.together
    ∙ rw (line_once a.fixed b.fixed, line_once a.period b.period, line_once a.deadline b.deadline, line_once a.earliest b.earliest)
    (sym b.together)

puts_once : {k : ℕ} {w v before x z : List ℕ} {r s : ℕ} → w ≡ v → Puts k w before x r → Puts k v before z s → (r ≡ s) × (x ≡ z)
puts_once e a b = (rw e at a.end ∙ sym b.end, rw e at a.bytes ∙ sym b.bytes)

pub report_once : {text before x z : List ℕ} {r s : ℕ} → Reports text before x r → Reports text before z s → (r ≡ s) × (x ≡ z)
report_once {text} {before} a b = le_case 292 (length before)
    (λ h. let p = a.lines h in let q = b.lines h in puts_once (four_once p.1 q.1) p.2 q.2)
    (λ h. let p = a.short h in let q = b.short h in (p.0 ∙ sym q.0, p.1 ∙ sym q.1))

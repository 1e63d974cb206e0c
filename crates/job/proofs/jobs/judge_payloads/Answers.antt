use Rattle.std.proofs.Common.{◌≡◌, ℕ, ◌*◌, List, Some, None, Ok, ◌∙◌, subst}
use Rattle.records.specs.Layout.{payload_at, part}
use Rattle.job.specs.declared.judging.Settings.{Settings}
use Rattle.job.specs.Heads.{head_of}
use Rattle.job.specs.Grounds.{head_fault, rules_fault, map_fault, field_fault}
use Rattle.job.specs.Jobs.{put}
use Rattle.job.specs.Outcomes.{Judged}
use Rattle.job.specs.Results.{SettingsOf}
use Rattle.job.proofs.NoFaults.{judged-none, judged_made, judged_some, passed, none_at, some_at, pass, stop}
use Rattle.job.proofs.jobs.judge_payloads.Given as given
use Rattle.job.proofs.jobs.judge_payloads.Goals as goal
use Rattle.job.proofs.jobs.judge_payloads.Goals.{In_ok-settings, In_ok-judge_rules, In_ok-judge_map, After-cells-cells}

-- the head was judged
settled : (g : given.Over) (c : In_ok-settings g)
    → Judged (put (head_fault (g.G.Gas.model c.args.gas.now) (g.S.TwistSource.model c.args.source.now)) (part c.args.file.now c.args.places.head))
    (SettingsOf (payload_at c.args.file.now c.args.places.head)) (Ok c.in_ok-settings.settings)
settled g c =
    subst (λ (p : ℕ × List ℕ). Judged (put (head_fault (g.G.Gas.model c.args.gas.now) (g.S.TwistSource.model c.args.source.now)) p) (SettingsOf p.1) (Ok c.in_ok-settings.settings))
    c.at.ensures c.in_ok-settings.ensures

-- the grid's cells are the head's
cells_is : (g : given.Over) (c : After-cells-cells g)
    → c.cells-cells.result ≡ (head_of (payload_at c.args.file.now c.args.places.head)).width * (head_of (payload_at c.args.file.now c.args.places.head)).height
cells_is g c =
    let s = judged_made (SettingsOf (payload_at c.args.file.now c.args.places.head)) _ _ (settled g (goal.at.After-cells-cells g c).In_ok-settings) in
    c.cells-cells.ensures.value ∙ (λ j. s.grid.width j * s.grid.height j)

-- what each judgement that went on found: nothing
head_none : (g : given.Over) (c : In_ok-settings g) → put (head_fault (g.G.Gas.model c.args.gas.now) (g.S.TwistSource.model c.args.source.now)) (part c.args.file.now c.args.places.head) ≡ None
head_none g c = judged-none (SettingsOf _) _ _ (settled g c)

rules-none : (g : given.Over) (c : In_ok-judge_rules g) → put (rules_fault (g.G.Gas.model c.args.gas.now)) (part c.args.file.now c.args.places.rules) ≡ None
rules-none g c = none_at (put (rules_fault (g.G.Gas.model c.args.gas.now))) _ _ c.at-2.ensures c.in_ok-judge_rules.ensures

map-none : (g : given.Over) (c : In_ok-judge_map g)
    → put (map_fault ((head_of (payload_at c.args.file.now c.args.places.head)).width * (head_of (payload_at c.args.file.now c.args.places.head)).height)) (part c.args.file.now c.args.places.map) ≡ None
map-none g c =
    subst (λ (n : ℕ). put (map_fault n) (part c.args.file.now c.args.places.map) ≡ None) (cells_is g (goal.at.In_ok-judge_map g c).After-cells-cells)
    (none_at (put (map_fault _)) _ _ c.at-3.ensures c.in_ok-judge_map.ensures)

pub returns-in_err-settings : goal.returns-in_err-settings
returns-in_err-settings g c =
    let f = c.in_err-settings.field-0.0 in
    let ground = put (head_fault (g.G.Gas.model c.args.gas.now) (g.S.TwistSource.model c.args.source.now)) in
    let head = subst (λ (p : ℕ × List ℕ). ground p ≡ Some f) c.at.ensures (judged_some Settings (SettingsOf _) _ f c.in_err-settings.ensures) in
    passed (SettingsOf (payload_at c.args.file.now c.args.places.head)) _ f _ (stop _ _ f head) c.from_residual.ensures.1

pub returns-in_err-judge_rules : goal.returns-in_err-judge_rules
returns-in_err-judge_rules g c =
    let f = c.in_err-judge_rules.field-0.0 in
    let rules = some_at (put (rules_fault (g.G.Gas.model c.args.gas.now))) _ _ f c.at-2.ensures c.in_err-judge_rules.ensures in
    passed (SettingsOf (payload_at c.args.file.now c.args.places.head)) _ f _ (pass _ _ (head_none g (goal.at.returns-in_err-judge_rules g c).In_ok-settings) ∙ stop _ _ f rules) c.from_residual-in_err-judge_rules.ensures.1

pub returns-in_err-judge_field : goal.returns-in_err-judge_field
returns-in_err-judge_field g c =
    let at = goal.at.returns-in_err-judge_field g c in
    let f = c.in_err-judge_field.field-0.0 in
    let ground = λ (n : ℕ). put (field_fault (g.G.Gas.model c.args.gas.now) n) in
    let field = subst (λ (n : ℕ). ground n (part c.args.file.now c.args.places.field) ≡ Some f) (cells_is g at.After-cells-cells) (some_at (ground _) _ _ f c.at-4.ensures c.in_err-judge_field.ensures) in
    passed (SettingsOf (payload_at c.args.file.now c.args.places.head)) _ f _
    (pass _ _ (head_none g at.In_ok-settings) ∙ (pass _ _ (rules-none g at.In_ok-judge_rules) ∙ (pass _ _ (map-none g at.In_ok-judge_map) ∙ stop _ _ f field))) c.from_residual-in_err-judge_field.ensures.1

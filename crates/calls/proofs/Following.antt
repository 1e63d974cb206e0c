-- Each line of a log leaves the tunnel that the plain tunnel has, and shows what that would show.
use Rattle.std.proofs.Common.{◌≡◌, ℕ, ◌+◌, ◌*◌, ◌≤◌, not, eqb, ltb, leb, List, [], ◌++◌, length, take, drop, set, Some, None, Ok, Err, Option, Result, sym, refl, ap, ◌∙◌, arith, length-set, take-append-drop, length-take, take-take}
use lib.Seq.{take-append-le, take-set-lt}
use Rattle.std.proofs.lemmas.List.{take_at}
use Rattle.std.proofs.lemmas.Bool.{leb-false}
use Rattle.lattice.specs.Grids.{cell_at}
use Rattle.lattice.proofs.Cells.{cell_below}
use Rattle.lattice.specs.declared.vector.Vector.{Vector as Account}
use Rattle.dynamics.specs.Roles.{highest_map_byte}
use Rattle.dynamics.specs.Tunnels.{Tunnel, cells}
use Rattle.dynamics.specs.Pushes.{after_steps}
use Rattle.dynamics.proofs.Whole.{steps_keep}
use Rattle.step.specs.Scenes.{scene_of}
use Rattle.step.specs.Results.{over}
use Rattle.step.proofs.Again.{same}
use Rattle.encode.specs.Encodings.{file_of, file_length}
use Rattle.encode.proofs.Lengths.{length_file}
use Rattle.codec.specs.Storable.{Storable}
use Rattle.report.specs.Reports.{snapshot, report_text}
use Rattle.faults.specs.declared.call.CallFault.{CallFault}
use Rattle.faults.specs.declared.call.CallFault.TheVariants.{ShortMap, ShortField, ShortSpare, Argument, TooManySteps, ShortOutput}
use Rattle.calls.specs.declared.call.Call.TheVariants.{Advance, Paint, Report, Mark}
use Rattle.calls.specs.Grounds.{or_then, fault_if, fan_fault, account_fault, advance_fault, paint_fault, patch_fits, report_fault, mark_fault, most_steps, step_limit}
use Rattle.calls.specs.Outcomes.{reply, leaves}
use Rattle.calls.specs.Calls.{with_period, Advanced, Painted, Fanned, Reported, Told, Marked}
use Rattle.calls.specs.Logs.{Scene, tunnel_of, Line, advanced, painted, fanned, reported, told, marked, Holds, call_of, plainly, counted, written, account, front, seen_of}
use Rattle.calls.specs.Plain.{text_of, ground_of, repainted, refanned, fed_one, shows}
use Rattle.calls.proofs.NoFaults.{none-parts, not_if}
use Rattle.calls.proofs.Handing.{handed_length, long_enough_none, map_room, field_room, map_handed, field_handed, scene_handed, put_back-front}

-- what a line amounts to
pub record Follows (l : Line) (x y : Scene) : Type 0 where
  pub tunnel : tunnel_of y ≡ fed_one (call_of l) (tunnel_of x)
  pub seen : seen_of l ≡ shows (tunnel_of x) (call_of l)

-- the tunnel of a scene by its parts
same_tunnel : (x y : Scene) → y.run ≡ x.run → y.map ≡ x.map → y.field ≡ x.field → tunnel_of y ≡ tunnel_of x
same_tunnel x y run_is map_is field_is = λ j. scene_of (run_is j) (map_is j) (field_is j)

-- what is left of a refused call, or made by a done one
left : {A : Type 0} (o p : Option CallFault) (before after : A) → o ≡ p → leaves o before after ≡ leaves p before after
left o p before after e = ap (λ (x : Option CallFault). leaves x before after) e

-- the bytes that an answer counts are those that were written
front_written : (o : Option CallFault) (text out : List ℕ) (n : ℕ) → length text ≡ n → front (reply o n) (leaves o out (over text out)) ≡ leaves o [] text
front_written None text out n e = take_at text (drop (length text) out) n e
front_written (Some f) text out n e = refl

module _ (x y : Scene) (good : Storable (tunnel_of x)) where
  -- advance
  module _ (k m f : ℕ) (spare spare' : List ℕ) (r : Result ℕ CallFault) (field' : List ℕ) (a : Advanced x.run k (take m x.map) (take f x.field) spare r y.run field' spare') (map_is : y.map ≡ x.map) (field_is : y.field ≡ field' ++ drop f x.field) where
    advance_ground : advance_fault x.run k (take m x.map) (take f x.field) spare ≡ ground_of (tunnel_of x) (Advance k m f (length spare))
    advance_ground = λ j.
        or_then (handed_length (cells x.run) m x.map ShortMap (map_room x.run x.map x.field good.sound) j)
        (or_then (handed_length (cells x.run) f x.field ShortField (field_room x.run x.map x.field good.sound) j)
        (or_then (fault_if (ltb (length spare) (cells x.run)) ShortSpare)
        (or_then (map_handed x.run m x.map x.field good.sound j)
        (or_then (field_handed x.run f x.map x.field good.sound j)
        (or_then (fault_if (eqb k 0) (Argument 1))
        (or_then (fault_if (ltb most_steps k) (Argument 1))
        (fault_if (ltb step_limit (x.run.steps + k)) TooManySteps)))))))

    advance_by : (o : Option CallFault) → ground_of (tunnel_of x) (Advance k m f (length spare)) ≡ o → tunnel_of y ≡ leaves o (tunnel_of x) (after_steps k (tunnel_of x))
    advance_by (Some fault) e =
        let held = advance_ground ∙ e in
        let part = a.field_is ∙ left _ _ (take f x.field) (over (after_steps k (scene_of x.run (take m x.map) (take f x.field))).field (take f x.field)) held in
        same_tunnel x y (a.run ∙ left _ _ x.run (after_steps k (scene_of x.run (take m x.map) (take f x.field))).run held) map_is
        (field_is ∙ ap (λ (p : List ℕ). p ++ drop f x.field) part ∙ take-append-drop f x.field)
    advance_by None e =
        let held = advance_ground ∙ e in
        let p = none-parts (fault_if (ltb m (cells x.run)) ShortMap) _ e in
        let q = none-parts (fault_if (ltb f (cells x.run)) ShortField) _ p.1 in
        let t = tunnel_of x in
        let scene = scene_handed x.run m f x.map x.field (long_enough_none _ m ShortMap p.0) (long_enough_none _ f ShortField q.0) in
        let kept = (steps_keep k t good.sound).sound in
        let run_is : y.run ≡ (after_steps k t).run =
        a.run ∙ left _ _ x.run (after_steps k (scene_of x.run (take m x.map) (take f x.field))).run held ∙ ap (λ (z : Tunnel). (after_steps k z).run) scene in
        let part : field' ≡ over (after_steps k t).field (take f x.field) =
        a.field_is ∙ left _ _ (take f x.field) (over (after_steps k (scene_of x.run (take m x.map) (take f x.field))).field (take f x.field)) held
        ∙ ap (λ (z : Tunnel). over (after_steps k z).field (take f x.field)) scene in
        let cells_is : cells y.run ≡ cells x.run = (λ j. cells (run_is j)) ∙ (λ j. (same k t).width j * (same k t).height j) in
        let maps : take (cells y.run) y.map ≡ (after_steps k t).map = (λ j. take (cells_is j) (map_is j)) ∙ sym (same k t).map in
        let fields : take (cells y.run) y.field ≡ (after_steps k t).field =
        (λ j. take (cells (run_is j)) ((field_is ∙ ap (λ (z : List ℕ). z ++ drop f x.field) part) j))
        ∙ put_back-front (cells (after_steps k t).run) (after_steps k t).field _ (drop f x.field) kept.field_long in
        λ j. record { run = run_is j; map = maps j; field = fields j }

    follows_advanced : Follows (advanced k m f spare spare' r) x y
    follows_advanced = record {
      tunnel = advance_by (ground_of (tunnel_of x) (Advance k m f (length spare))) refl;
      seen = ap counted (a.answer ∙ ap (λ (o : Option CallFault). reply o (x.run.steps + k)) advance_ground);
    }

  -- paint
  module _ (column row kind m : ℕ) (r : Result (Unit {0}) CallFault) (map' : List ℕ) (a : Painted x.run column row kind (take m x.map) r y.run map') (map_is : y.map ≡ map' ++ drop m x.map) (field_is : y.field ≡ x.field) where
    paint_ground : paint_fault x.run column row kind (take m x.map) ≡ ground_of (tunnel_of x) (Paint column row kind m)
    paint_ground = λ j.
        or_then (handed_length (cells x.run) m x.map ShortMap (map_room x.run x.map x.field good.sound) j)
        (or_then (map_handed x.run m x.map x.field good.sound j)
        (or_then (fault_if (leb x.run.width column) (Argument 1))
        (or_then (fault_if (leb x.run.height row) (Argument 2)) (fault_if (ltb highest_map_byte kind) (Argument 3)))))

    paint_by : (o : Option CallFault) → ground_of (tunnel_of x) (Paint column row kind m) ≡ o → tunnel_of y ≡ leaves o (tunnel_of x) (repainted (tunnel_of x) (cell_at x.run.width column row) kind)
    paint_by (Some fault) e =
        let part = a.map_is ∙ left _ _ (take m x.map) (set (take m x.map) (cell_at x.run.width column row) kind) (paint_ground ∙ e) in
        same_tunnel x y a.run (map_is ∙ ap (λ (p : List ℕ). p ++ drop m x.map) part ∙ take-append-drop m x.map) field_is
    paint_by None e =
        let i = cell_at x.run.width column row in
        let n = cells x.run in
        let p = none-parts (fault_if (ltb m n) ShortMap) _ e in
        let q = none-parts (fault_if (leb x.run.width column) (Argument 1)) _ p.1 in
        let s = none-parts (fault_if (leb x.run.height row) (Argument 2)) (fault_if (ltb highest_map_byte kind) (Argument 3)) q.1 in
        let room = long_enough_none n m ShortMap p.0 in
        let within = cell_below x.run.width x.run.height column row (leb-false _ _ (not_if _ (Argument 1) q.0)) (leb-false _ _ (not_if _ (Argument 2) s.0)) in
        let long = map_room x.run x.map x.field good.sound in
        let part : map' ≡ set (take m x.map) i kind = a.map_is ∙ left _ _ (take m x.map) (set (take m x.map) i kind) (paint_ground ∙ e) in
        let maps : take (cells y.run) y.map ≡ set (take n x.map) i kind =
        (λ j. take (cells (a.run j)) ((map_is ∙ ap (λ (z : List ℕ). z ++ drop m x.map) part) j))
        ∙ take-append-le n (set (take m x.map) i kind) (drop m x.map) (omega (arith, length-set (take m x.map) i kind, length-take m x.map))
        ∙ take-set-lt n (take m x.map) i kind within
        ∙ ap (λ (z : List ℕ). set z i kind) (take-take n m x.map room) in
        λ j. record { run = a.run j; map = maps j; field = take (cells (a.run j)) (field_is j) }

    follows_painted : Follows (painted column row kind m r) x y
    follows_painted = record {
      tunnel = paint_by (ground_of (tunnel_of x) (Paint column row kind m)) refl;
      seen = ap plainly (a.answer ∙ ap (λ (o : Option CallFault). reply o tt) paint_ground);
    }

  -- fan
  module _ (period : ℕ) (r : Result (Unit {0}) CallFault) (a : Fanned x.run period r y.run) (map_is : y.map ≡ x.map) (field_is : y.field ≡ x.field) where
    fan_by : (o : Option CallFault) → fan_fault period ≡ o → tunnel_of y ≡ leaves o (tunnel_of x) (refanned (tunnel_of x) period)
    fan_by (Some fault) e = same_tunnel x y (a.run ∙ left _ _ x.run (with_period x.run period) e) map_is field_is
    fan_by None e =
        let run_is : y.run ≡ with_period x.run period = a.run ∙ left _ _ x.run (with_period x.run period) e in
        λ j. record { run = run_is j; map = take (cells (run_is j)) (map_is j); field = take (cells (run_is j)) (field_is j) }

    follows_fanned : Follows (fanned period r) x y
    follows_fanned = record { tunnel = fan_by (fan_fault period) refl; seen = ap plainly a.answer }

  -- a call that changes nothing
  still : (o : Option CallFault) → y.run ≡ x.run → y.map ≡ x.map → y.field ≡ x.field → tunnel_of y ≡ leaves o (tunnel_of x) (tunnel_of x)
  still (Some fault) run_is map_is field_is = same_tunnel x y run_is map_is field_is
  still None run_is map_is field_is = same_tunnel x y run_is map_is field_is

  -- account
  follows_told : (n : ℕ) (r : Result Account CallFault) → Told x.run n r y.run → y.map ≡ x.map → y.field ≡ x.field → Follows (told n r) x y
  follows_told n r a map_is field_is = record { tunnel = still (account_fault n) a.run map_is field_is; seen = ap account a.answer }

  -- report
  module _ (b f : ℕ) (out out' : List ℕ) (r : Result ℕ CallFault) (a : Reported x.run b (take f x.field) out r y.run out') (map_is : y.map ≡ x.map) (field_is : y.field ≡ x.field) where
    -- where enough was handed over, it is the tunnel's text
    text_handed : cells x.run ≤ f → report_text (snapshot x.run (take f x.field)) b ≡ text_of (tunnel_of x) b
    text_handed room =
        let n = cells x.run in
        let fields : take n (take f x.field) ≡ take n (take n x.field) = take-take n f x.field room ∙ sym (take-take n n x.field (omega arith)) in
        λ j. report_text (record { gas = x.run.gas; width = x.run.width; height = x.run.height; steps = x.run.steps; book = x.run.book; field = fields j }) b

    -- the grounds, by whether it was
    report_ground : (o : Option CallFault) → fault_if (ltb f (cells x.run)) ShortField ≡ o
        → or_then (or_then o (fault_if (not (patch_fits x.run b)) (Argument 1))) (fault_if (ltb (length out) (length (report_text (snapshot x.run (take f x.field)) b))) ShortOutput)
        ≡ or_then o (or_then (fault_if (not (patch_fits x.run b)) (Argument 1)) (fault_if (ltb (length out) (length (text_of (tunnel_of x) b))) ShortOutput))
    report_ground (Some fault) e = refl
    report_ground None e = λ j. or_then (fault_if (not (patch_fits x.run b)) (Argument 1)) (fault_if (ltb (length out) (length (text_handed (long_enough_none _ f ShortField e) j))) ShortOutput)

    report_grounds : report_fault x.run b (take f x.field) out ≡ ground_of (tunnel_of x) (Report b f (length out))
    report_grounds =
        (λ j. or_then (or_then (handed_length (cells x.run) f x.field ShortField (field_room x.run x.map x.field good.sound) j)
        (or_then (field_handed x.run f x.map x.field good.sound j) (fault_if (not (patch_fits x.run b)) (Argument 1))))
        (fault_if (ltb (length out) (length (report_text (snapshot x.run (take f x.field)) b))) ShortOutput))
        ∙ report_ground (fault_if (ltb f (cells x.run)) ShortField) refl

    report_seen : (o : Option CallFault) → ground_of (tunnel_of x) (Report b f (length out)) ≡ o
        → written r (front r out') ≡ written (reply o (length (text_of (tunnel_of x) b))) (leaves o [] (text_of (tunnel_of x) b))
    report_seen (Some fault) e =
        let is : r ≡ Err fault = a.answer ∙ ap (λ (o : Option CallFault). reply o (length (report_text (snapshot x.run (take f x.field)) b))) (report_grounds ∙ e) in
        λ j. written (is j) (front (is j) out')
    report_seen None e =
        let p = none-parts (fault_if (ltb f (cells x.run)) ShortField) _ e in
        let text = text_handed (long_enough_none _ f ShortField p.0) in
        let held = report_grounds ∙ e in
        let is : r ≡ Ok (length (text_of (tunnel_of x) b)) =
        a.answer ∙ ap (λ (o : Option CallFault). reply o (length (report_text (snapshot x.run (take f x.field)) b))) held ∙ (λ j. Ok (length (text j))) in
        let out_is : out' ≡ over (text_of (tunnel_of x) b) out = a.out_is ∙ left _ _ out (over (report_text (snapshot x.run (take f x.field)) b) out) held ∙ ap (λ (z : List ℕ). over z out) text in
        (λ j. written (is j) (front (is j) (out_is j))) ∙ ap (written (Ok (length (text_of (tunnel_of x) b)))) (take_at (text_of (tunnel_of x) b) (drop (length (text_of (tunnel_of x) b)) out) _ refl)

    follows_reported : Follows (reported b f out out' r) x y
    follows_reported = record {
      tunnel = still (ground_of (tunnel_of x) (Report b f (length out))) a.run map_is field_is;
      seen = report_seen (ground_of (tunnel_of x) (Report b f (length out))) refl;
    }

  -- mark
  module _ (m f : ℕ) (out out' : List ℕ) (r : Result ℕ CallFault) (a : Marked x.run (take m x.map) (take f x.field) out r y.run out') (map_is : y.map ≡ x.map) (field_is : y.field ≡ x.field) where
    mark_ground : mark_fault x.run (take m x.map) (take f x.field) out ≡ ground_of (tunnel_of x) (Mark m f (length out))
    mark_ground = λ j.
        or_then (handed_length (cells x.run) m x.map ShortMap (map_room x.run x.map x.field good.sound) j)
        (or_then (handed_length (cells x.run) f x.field ShortField (field_room x.run x.map x.field good.sound) j)
        (or_then (map_handed x.run m x.map x.field good.sound j)
        (or_then (field_handed x.run f x.map x.field good.sound j) (fault_if (ltb (length out) (file_length x.run.gas (cells x.run))) ShortOutput))))

    mark_seen : (o : Option CallFault) → ground_of (tunnel_of x) (Mark m f (length out)) ≡ o
        → written r (front r out') ≡ written (reply o (file_length x.run.gas (cells x.run))) (leaves o [] (file_of (tunnel_of x)))
    mark_seen (Some fault) e =
        let is : r ≡ Err fault = a.answer ∙ ap (λ (o : Option CallFault). reply o (file_length x.run.gas (cells x.run))) (mark_ground ∙ e) in
        λ j. written (is j) (front (is j) out')
    mark_seen None e =
        let p = none-parts (fault_if (ltb m (cells x.run)) ShortMap) _ e in
        let q = none-parts (fault_if (ltb f (cells x.run)) ShortField) _ p.1 in
        let scene = scene_handed x.run m f x.map x.field (long_enough_none _ m ShortMap p.0) (long_enough_none _ f ShortField q.0) in
        let held = mark_ground ∙ e in
        let n = file_length x.run.gas (cells x.run) in
        let is : r ≡ Ok n = a.answer ∙ ap (λ (o : Option CallFault). reply o n) held in
        let out_is : out' ≡ over (file_of (tunnel_of x)) out = a.out_is ∙ left _ _ out (over (file_of (scene_of x.run (take m x.map) (take f x.field))) out) held ∙ ap (λ (z : Tunnel). over (file_of z) out) scene in
        let long = length_file (tunnel_of x) good.sound.run.entries.full good.sound.map_long good.sound.field_long good.sound.run.book_long in
        (λ j. written (is j) (front (is j) (out_is j))) ∙ ap (written (Ok n)) (take_at (file_of (tunnel_of x)) (drop (length (file_of (tunnel_of x))) out) n long)

    follows_marked : Follows (marked m f out out' r) x y
    follows_marked = record {
      tunnel = still (ground_of (tunnel_of x) (Mark m f (length out))) a.run map_is field_is;
      seen = mark_seen (ground_of (tunnel_of x) (Mark m f (length out))) refl;
    }

-- every line
pub follows : (l : Line) (x y : Scene) → Storable (tunnel_of x) → Holds l x y → Follows l x y
follows (advanced k m f spare spare' r) x y good h = follows_advanced x y good k m f spare spare' r h.0 h.1 h.2 h.3
follows (painted column row kind m r) x y good h = follows_painted x y good column row kind m r h.0 h.1 h.2 h.3
follows (fanned period r) x y good h = follows_fanned x y good period r h.0 h.1 h.2
follows (reported b f out out' r) x y good h = follows_reported x y good b f out out' r h.0 h.1 h.2
follows (told n r) x y good h = follows_told x y good n r h.0 h.1 h.2
follows (marked m f out out' r) x y good h = follows_marked x y good m f out out' r h.0 h.1 h.2

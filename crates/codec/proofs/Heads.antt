-- The head of a run, written and read, and read and written.
use Rattle.std.proofs.Common.{◌≡◌, ℕ, ◌≤◌, List, ◌∷◌, ◌++◌, length, get_or, drop, sym, ap, ◌∙◌, arith}
use Rattle.std.proofs.lemmas.List.{drop_more, drop_all}
use Rattle.gas.specs.Model.{GasModel}
use Rattle.twist.specs.Model.{TwistModel}
use Rattle.dynamics.specs.Tunnels.{RunState}
use Rattle.dynamics.specs.Soundness.{SoundRun}
use Rattle.records.specs.Format.{Bytes, le}
use Rattle.records.proofs.Numbers.{number-le}
use Rattle.job.specs.declared.head.Head.{Head}
use Rattle.job.specs.Heads.{head_length, head_of, number_at}
use Rattle.job.specs.Grounds.{longest_period, step_limit}
use Rattle.job.specs.Jobs.{bytes_at, run_in}
use Rattle.encode.specs.Encodings.{head_bytes}
use Rattle.codec.proofs.Numbers.{again}

-- what a run's head says
abbrev pub head_is : RunState → Head
head_is s = record { gas = s.gas.kind; twist = s.twist.kind; width = s.width; height = s.height; period = s.period; steps = s.steps; mark = s.mark }

pub head_read : (s : RunState) → SoundRun s → s.period ≤ longest_period → s.steps ≤ step_limit → head_of (head_bytes s) ≡ head_is s
head_read s sound period steps =
    let wide = sound.grid.not_too_wide in
    let high = sound.grid.not_too_high in
    let small = sound.twist.small s.mark sound.mark in
    λ i. record {
      gas = s.gas.kind;
      twist = s.twist.kind;
      width = number-le 2 s.width (omega arith) i;
      height = number-le 2 s.height (omega arith) i;
      period = number-le 2 s.period (omega arith) i;
      steps = number-le 4 s.steps (omega arith) i;
      mark = number-le 4 s.mark (omega arith) i;
    }

-- the kinds are the first two bytes
pub head_written : (gas : GasModel) (twist : TwistModel) (ps : List (ℕ × List ℕ)) → length (bytes_at 0 ps) ≡ head_length → Bytes (bytes_at 0 ps) → get_or (bytes_at 0 ps) 0 0 ≡ gas.kind → get_or (bytes_at 0 ps) 1 0 ≡ twist.kind → head_bytes (run_in gas twist ps) ≡ bytes_at 0 ps
head_written gas twist ps long all g t =
    let bs = bytes_at 0 ps in
    let mark : le 4 (number_at bs 12 4) ≡ drop 12 bs = ap (λ l. le 4 (number_at bs 12 4) ++ l) (sym (drop_all 16 bs (omega arith))) ∙ again bs all 4 12 (omega arith) in
    let steps = ap (λ l. le 4 (number_at bs 8 4) ++ l) mark ∙ again bs all 4 8 (omega arith) in
    let period = ap (λ l. le 2 (number_at bs 6 2) ++ l) steps ∙ again bs all 2 6 (omega arith) in
    let height = ap (λ l. le 2 (number_at bs 4 2) ++ l) period ∙ again bs all 2 4 (omega arith) in
    let width = ap (λ l. le 2 (number_at bs 2 2) ++ l) height ∙ again bs all 2 2 (omega arith) in
    (λ i. sym g i ∷ sym t i ∷ width i) ∙ ap (λ l. get_or bs 0 0 ∷ l) (sym (drop_more bs 1 0 (omega arith))) ∙ sym (drop_more bs 0 0 (omega arith))

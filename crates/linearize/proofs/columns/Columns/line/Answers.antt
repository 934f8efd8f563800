use Rattle.linearize.proofs.Imports.{◌≡◌, ℕ, ◌+◌, ◌-◌, ◌*◌, ◌/◌, ◌≤◌, ap, ◌∙◌, arith, mul-le}
use Rattle.linearize.proofs.Divided.{divided}
use Rattle.linearize.proofs.columns.Columns.line.Goals as goal

pub returns : goal.returns
returns c =
    let m = c.args.self.now in
    let row = c.args.row in
    let e : ℕ = m.factor * m.columns - 281474976710656 in
    let near : m.factor * m.columns ≡ 281474976710656 + e = omega (arith, m.above, m.near) in
    let low : row ≤ 16777215 = omega arith in
    ap (λ (n : ℕ). n * c.from-2.result / 281474976710656) c.from.ensures
    ∙ ap (λ (n : ℕ). row * n / 281474976710656) c.from-2.ensures
    ∙ divided row m.columns m.factor e 281474976710656 m.some near (omega (arith, mul-le row e 16777215 16777216 low (omega (arith, m.near, m.few))))

-- `sweep::through::met_at` meets its contract. Assumes nothing.
use Rattle.sweep.proofs.Marks.{says-as, says-and, says-or}
use Rattle.sweep.proofs.Meeting.{some-met, apart-met}
use Rattle.sweep.proofs.through.met_at.Goals as goal

pub returns-clause-some : goal.returns-clause-some
returns-clause-some c =
    says-as _ _ (λ p h. some-met c.args.five _ _ p)
    (says-or (says-or (says-or (says-or c.back-s0.ensures c.back-s1.ensures) c.back-s2.ensures) c.back-s3.ensures) c.fifth-s4.ensures)

pub returns-clause-apart : goal.returns-clause-apart
returns-clause-apart c =
    let s2 = c.back-s2.ensures in
    let s3 = c.back-s3.ensures in
    let s4 = c.fifth-s4.ensures in
    says-as _ _ (λ p h. apart-met c.args.five _ _ p)
    (says-or (says-or (says-and c.back-s0.ensures (says-or (says-or s2 s3) s4)) (says-and c.back-s1.ensures (says-or s3 s4))) (says-and s2 s4))

use Rattle.boss_words.proofs.Rows.{job_of-unknown}
use Rattle.boss_words.proofs.read.read_words.Goals as goal

pub returns-in_default-as_str-clause-job : goal.returns-in_default-as_str-clause-job
returns-in_default-as_str-clause-job c =
    let arm = c.in_default-as_str in
    let bytes = c.as_str.ensures.value in
    rw (← c.as_slice.ensures.value) (job_of-unknown c.as_slice.result.now c.job-item.result c.job-item.is (rw bytes at arm.not-script) (rw bytes at arm.not-serve) (rw bytes at arm.not-check) (rw bytes at arm.not-adopt) (rw bytes at arm.not-shift) (rw bytes at arm.not-feed) (rw bytes at arm.not-standby) (rw bytes at arm.not-load)
    (rw bytes at arm.not-help) (rw bytes at arm.not-text) (rw bytes at arm.not-version) (rw bytes at arm.not-text-2))

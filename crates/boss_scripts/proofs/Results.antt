-- What holds anyway, of a result.
use Rattle.std.proofs.Common.{Result, Ok, Err, OnErr, OnOk}

pub on-err : {T E : Type 0} (result : Result T E) (P : Type 0) → P → OnErr result P
on-err (Ok x) P holds = tt
on-err (Err e) P holds = holds

pub err-then : {T E : Type 0} (result : Result T E) (P Q : Type 0) → (P → Q) → OnErr result P → OnErr result Q
err-then (Ok x) P Q go holds = tt
err-then (Err e) P Q go holds = go holds

pub ok-then : {T E : Type 0} (result : Result T E) (P Q : Type 0) → (P → Q) → OnOk result P → OnOk result Q
ok-then (Ok x) P Q go holds = go holds
ok-then (Err e) P Q go holds = tt

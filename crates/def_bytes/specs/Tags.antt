-- Source: own.
-- The tag that an event's bytes begin with, by its act. Those from 8 on have the process's number for the request; they came with
-- version 2.
use Rattle.std.specs.Prelude.{ℕ}

abbrev pub enrol : ℕ
enrol = 1

abbrev pub submit : ℕ
submit = 2

abbrev pub renew : ℕ
renew = 3

abbrev pub cancel : ℕ
cancel = 4

abbrev pub gone : ℕ
gone = 5

abbrev pub tick : ℕ
tick = 6

abbrev pub fault : ℕ
fault = 7

abbrev pub numbered_submit : ℕ
numbered_submit = 8

abbrev pub numbered_renew : ℕ
numbered_renew = 9

abbrev pub numbered_cancel : ℕ
numbered_cancel = 10

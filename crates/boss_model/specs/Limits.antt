-- Source: own; levels 1 to 16: ASHRAE 135, clause 19.2.1.
-- Every limit of the machine, of its lines, of its files and of its workers, each under one name, with its unit and why it is
-- what it is. `src/limits.rt` has the same numbers for the program.
use Rattle.std.specs.Prelude.{ℕ, ◌^◌, List, codes}

-- ---- the catalogue

-- each driver has a worker of its own, so these are threads
abbrev pub most_drivers : ℕ
most_drivers = 256

-- a building; what is kept of them, with each slot taken, stays below 32 MiB
abbrev pub most_points : ℕ
most_points = 4096

-- the levels of a priority array, 1 the highest (ASHRAE 135, clause 19.2.1)
abbrev pub levels : ℕ
levels = 16

-- bytes of the name of a point, a driver or a process
abbrev pub longest_name : ℕ
longest_name = 64

-- bytes of the catalogue's file, a mebibyte: 4,096 points need a third of it
abbrev pub longest_file : ℕ
longest_file = 1048576

-- the minimum on and off times of a binary point, in milliseconds: a day
abbrev pub longest_minimum : ℕ
longest_minimum = 86400000

-- ---- transactions

-- writes of a submit, and points that a renewal names: one line has room for them
abbrev pub most_writes : ℕ
most_writes = 32

-- leases and renewals, in milliseconds: a week
abbrev pub longest_lease : ℕ
longest_lease = 604800000

-- a step of a reversion, in milliseconds: a day
abbrev pub longest_hold : ℕ
longest_hold = 86400000

abbrev pub most_steps : ℕ
most_steps = 8

-- transactions that are done, and still kept, at most, so that who comes late can ask what became of them
abbrev pub done_kept : ℕ
done_kept = 1024

-- ---- processes

abbrev pub most_processes : ℕ
most_processes = 256

-- notices that are kept for each of them, at most
abbrev pub notices_kept : ℕ
notices_kept = 1024

-- notices that are told at once: their text has room in one answer
abbrev pub most_told : ℕ
most_told = 64

-- ---- numbers

-- moments, in milliseconds: 36 million years, so that a moment and a lease always have a sum of 64 bits
abbrev pub last_moment : ℕ
last_moment = 2 ^ 60

-- transactions are numbered below this, notices and events up to this: none of them is reached
abbrev pub last_number : ℕ
last_number = 2 ^ 62

-- sessions of a script
abbrev pub last_session : ℕ
last_session = 65535

-- ---- lines

-- bytes of a line, without its end
abbrev pub longest_line : ℕ
longest_line = 65535

-- bytes that an answer is written into: the longest has one less
abbrev pub answer_room : ℕ
answer_room = 32768

-- lines of a script
abbrev pub most_lines : ℕ
most_lines = 2 ^ 32

-- requests of a connection that are held and done together, and the events of one record
abbrev pub most_held : ℕ
most_held = 16

-- ---- devices

-- after a failed write a device is left alone so long, in milliseconds
abbrev pub retry_after : ℕ
retry_after = 5000

-- ---- the journal

-- the place of a new journal's first gate, after the mark, the version and the digest, in bytes
abbrev pub first_gate : ℕ
first_gate = 41

-- bytes of a record: its length has four, of which two are used
abbrev pub longest_record : ℕ
longest_record = 65535

-- bytes that a call wants to find free in a log, and that a record is read into: more than any record has
abbrev pub record_room : ℕ
record_room = 65536

-- bytes of a log, 16 MiB, after which a new state is kept: an opening reads so much at most
abbrev pub log_limit : ℕ
log_limit = 16777216

-- ---- the program

-- its version, as it tells it
abbrev pub program_version : List ℕ
program_version = codes "0.3.0"

-- ---- workers

-- for connections: each is a thread, of which one that is blocked takes some 45 kB
abbrev pub most_workers : ℕ
most_workers = 1024

-- looks at the lock before a caller sleeps, since a turn is mostly passed on sooner than a thread wakes
abbrev pub lock_looks : ℕ
lock_looks = 1000

-- places in line for the lock that have a bell of their own: more than workers that may wait at once, so that a turn which is passed on
-- wakes one of them
abbrev pub bells : ℕ
bells = 2048

-- counters at which callers leave requests for whoever has the turn: as many as callers that mostly wait at once, each a few hundred bytes;
-- a turn looks at each of them
abbrev pub most_counters : ℕ
most_counters = 256

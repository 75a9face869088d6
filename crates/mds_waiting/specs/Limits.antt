-- How long a client may take for its part of a connection, in milliseconds.
use Rattle.std.specs.Prelude.{ℕ, ◌+◌, min}
use Rattle.mds_waiting.specs.declared.part.Part.{Part}
use Rattle.mds_waiting.specs.declared.part.Part.TheVariants.{Head, Request, Answer, Last}

-- how long a part may take: 10 seconds for a head, 60 for a request, 60 for taking an answer, 10
-- for ending behind it
abbrev pub limit_millis : Part → ℕ
limit_millis Head = 10_000
limit_millis Request = 60_000
limit_millis Answer = 60_000
limit_millis Last = 10_000

-- how long a client may do nothing: 30 seconds, and 2 behind its answer
abbrev pub call_millis : Part → ℕ
call_millis Head = 30_000
call_millis Request = 30_000
call_millis Answer = 30_000
call_millis Last = 2_000

-- how many bytes that a client sends behind its answer are thrown away at most: 16 MiB
abbrev pub max_last : ℕ
max_last = 16_777_216

-- the last time that a clock tells
abbrev pub last_time : ℕ
last_time = 18_446_744_073_709_551_615

-- when the time of a part is over that began then, where the client did something at last now
abbrev pub until : Part → ℕ → ℕ → ℕ
until part begun now = min (min (begun + limit_millis part) (now + call_millis part)) last_time

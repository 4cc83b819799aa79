-- The limits, the weights and the letters as numbers: contracts, definitions and code share their names, so only these examples would
-- reveal a changed number.
use Rattle.std.proofs.Common.{◌≡◌, ◌-◌, ◌*◌, refl}
use Rattle.tt_text.specs.declared.feed.TheConstants.{MAX_BYTES, MAX_TOKEN_BYTES}
use Rattle.tt_instance.specs.declared.limit.TheConstants.{MAX_COURSES, MAX_ROOMS, MAX_DAYS, MAX_PERIODS, MAX_SLOTS, MAX_CELLS, MAX_CURRICULA, MAX_MEMBERS, MAX_UNAVAILABILITIES, MAX_LECTURES, MAX_MIN_DAYS, MAX_SEATS, ISOLATED_COST, MISSING_DAY_COST}
use Rattle.tt_table.specs.declared.table.TheConstants.{MAX_ENTRIES}
use Rattle.tt_path.specs.declared.path.TheConstants.{MAX_FACTS}
use Rattle.tt_proof_read.specs.declared.format.TheConstants.{MAX_PRICE, MAX_POINTS, MAX_PROOF_NODES, COURSE_LETTER, CURRICULUM_LETTER, ROOM_LETTER, DAY_LETTER, PERIOD_LETTER}
use Rattle.tt_branch.specs.declared.limit.TheConstants.{MAX_OPENED, MAX_TREE, FIRST_STEPS}

-- ---- files

max_bytes : MAX_BYTES ≡ 4294967295
max_bytes = refl

max_token_bytes : MAX_TOKEN_BYTES ≡ 32
max_token_bytes = refl

-- ---- instances

max_courses : MAX_COURSES ≡ 2048
max_courses = refl

max_rooms : MAX_ROOMS ≡ 512
max_rooms = refl

max_days : MAX_DAYS ≡ 64
max_days = refl

max_periods : MAX_PERIODS ≡ 64
max_periods = refl

max_slots : MAX_SLOTS ≡ 512
max_slots = refl

max_cells : MAX_CELLS ≡ 67108864
max_cells = refl

max_curricula : MAX_CURRICULA ≡ 8192
max_curricula = refl

max_members : MAX_MEMBERS ≡ 4096
max_members = refl

max_unavailabilities : MAX_UNAVAILABILITIES ≡ 65536
max_unavailabilities = refl

max_lectures : MAX_LECTURES ≡ 4096
max_lectures = refl

max_min_days : MAX_MIN_DAYS ≡ 512
max_min_days = refl

max_seats : MAX_SEATS ≡ 1000000
max_seats = refl

-- ---- the competition's weights

missing_day_cost : MISSING_DAY_COST ≡ 5
missing_day_cost = refl

isolated_cost : ISOLATED_COST ≡ 2
isolated_cost = refl

-- ---- timetables

max_entries : MAX_ENTRIES ≡ 16384
max_entries = refl

-- ---- paths

max_facts : MAX_FACTS ≡ 65536
max_facts = refl

-- ---- proofs; the letters are c, q, r, d and p

max_price : MAX_PRICE ≡ 1000000
max_price = refl

max_points : MAX_POINTS ≡ 1000000000000
max_points = refl

max_nodes : MAX_PROOF_NODES ≡ 16777216
max_nodes = refl

course_letter : COURSE_LETTER ≡ 99
course_letter = refl

curriculum_letter : CURRICULUM_LETTER ≡ 113
curriculum_letter = refl

room_letter : ROOM_LETTER ≡ 114
room_letter = refl

day_letter : DAY_LETTER ≡ 100
day_letter = refl

period_letter : PERIOD_LETTER ≡ 112
period_letter = refl

-- ---- searches

max_opened : MAX_OPENED ≡ 65536
max_opened = refl

max_tree : MAX_TREE ≡ 2 * MAX_OPENED - 1
max_tree = refl

first_steps : FIRST_STEPS ≡ 10000
first_steps = refl

-- Which page an access copies a word of.
use Rattle.std.specs.Prelude.{ℕ, ◌/◌, if◌then◌else◌, Option, Some, None}
use Rattle.thread_state.specs.Pages.{Buffer, is_dirty}
use Rattle.task_run.specs.Actions.{Action, Put, Get, Make}

-- the page that an action writes to
abbrev pub page_written : Action → Option ℕ
page_written (Put word value) = Some (word / 8)
page_written (Get word) = None
page_written (Make access) = None

-- of those, a page whose other copy isn't in use yet
abbrev pub clean_page : Buffer → Option ℕ → Option ℕ
clean_page b None = None
clean_page b (Some page) = if is_dirty b page then None else Some page

-- the page that the access of an action copies a word of
abbrev pub page_copied : Buffer → Action → Option ℕ
page_copied b a = clean_page b (page_written a)

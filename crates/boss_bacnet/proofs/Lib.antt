pub mod TalkLemmas
mod BacRows

mod Made
mod Parts
mod Reading
mod FewTokens
